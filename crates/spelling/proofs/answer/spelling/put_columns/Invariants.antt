use Rattle.std.proofs.Common.{◌≡◌, ◌++◌, get_or}
use Rattle.std.specs.List.{range_with_len, flat_map}
use Rattle.few.specs.Few.{items}
use Rattle.spelling.specs.Spelled.{column_text}
use Rattle.spelling.proofs.answer.spelling.put_columns.Given as goal

-- the columns of the factors so far are added
abbrev pub invariant-loop-factor : goal.invariant-loop-factor
invariant-loop-factor l = items l.text ≡ items l.initial.text ++ flat_map (λ i. column_text l.n1 i (get_or l.columns i 0)) (range_with_len 0 l.factor)
