use Rattle.std.proofs.Common.{◌≡◌, ◌++◌}
use Rattle.std.specs.List.{range_with_len, flat_map}
use Rattle.few.specs.Few.{items}
use Rattle.key.specs.Questions.{row_of}
use Rattle.key.proofs.Key.put_plot.Given as goal

-- the rows of the subplots so far are added
abbrev pub invariant-loop-subplot : goal.invariant-loop-subplot
invariant-loop-subplot l = items l.text ≡ items l.initial.text ++ flat_map (row_of l.self l.plot) (range_with_len 0 l.subplot)
