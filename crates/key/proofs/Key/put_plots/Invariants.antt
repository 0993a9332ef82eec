use Rattle.std.proofs.Common.{◌≡◌}
use Rattle.std.specs.List.{range_with_len, flat_map}
use Rattle.few.specs.Few.{items}
use Rattle.key.specs.Questions.{plot_of}
use Rattle.key.proofs.Key.put_plots.Given as goal

-- the rows of the whole plots so far are written
abbrev pub invariant-loop-plot : goal.invariant-loop-plot
invariant-loop-plot l = items l.text ≡ flat_map (plot_of l.self) (range_with_len 0 l.plot)
