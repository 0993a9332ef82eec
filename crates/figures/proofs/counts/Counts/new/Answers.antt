use Rattle.std.proofs.Common.{sym, ap, ◌∙◌}
use Rattle.figures.specs.Rows.{table_of}
use Rattle.figures.proofs.Rows.{mean_table}
use Rattle.figures.proofs.counts.Counts.new.Goals as goal

pub invariant_of-result-clause-counted : goal.invariant_of-result-clause-counted
invariant_of-result-clause-counted c = mean_table ∙ ap table_of (sym c.new.ensures)
