use Rattle.std.proofs.Common.{◌≡◌, get_or}
use Rattle.std.specs.List.{range_with_len, flat_map}
use Rattle.few.specs.Few.{items}
use Rattle.spelling.specs.Spelled.{effect_text}
use Rattle.spelling.proofs.answer.spelling.put_chain.Given as goal

-- the effects so far are written
abbrev pub invariant-loop-place : goal.invariant-loop-place
invariant-loop-place l = items l.text ≡ flat_map (λ i. effect_text l.effects.n1 i (get_or (items l.effects.list) i 0)) (range_with_len 0 l.place)
