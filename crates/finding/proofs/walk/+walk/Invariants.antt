use Rattle.std.proofs.Common.{ℕ, ◌-◌, List, ◌++◌, length}
use Rattle.opening.specs.Shapes.{factors_of}
use Rattle.figures.specs.Counted.{columns_in}
use Rattle.finding.specs.Walks.{upto, branch_after}
use Rattle.finding.proofs.walk.+walk.Given as goal

abbrev pub decreases-walk : goal.decreases-walk
decreases-walk g l = factors_of l.begun.now.counts.shape - length (columns_in l.begun.now.counts)

abbrev pub invariant-loop-column : goal.invariant-loop-column
invariant-loop-column g l =
    (u : g.row.V.Denot) (keys : List (List ℕ)) → g.V.Visit.saw l.begun.counts.shape u keys l.initial.visitor
    → g.V.Visit.saw l.begun.counts.shape u (keys ++ upto (branch_after l.begun.counts l.begun.opened) l.column) l.visitor
