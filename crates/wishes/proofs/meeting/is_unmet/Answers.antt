use Rattle.std.proofs.Common.{rules}
use Rattle.opening.specs.Shapes.{layers_of}
use Rattle.figures.specs.Counted.{columns_in}
use Rattle.wishes.proofs.Failing.{clear_by_main, clear_by_other, least_by}
use Rattle.wishes.proofs.meeting.is_unmet.Goals as goal

pub returns-then-count-gt0 : goal.returns-then-count-gt0
returns-then-count-gt0 c =
    clear_by_main (layers_of c.args.counts.now.shape) (columns_in c.args.counts.now) c.args.wish c.requires
    c.in-Clear.e c.alias-word.result c.count.result c.in-Clear.is c.alias-word.ensures c.count.ensures c.if-count-gt0.true

pub returns-else-count-gt0 : goal.returns-else-count-gt0
returns-else-count-gt0 c =
    clear_by_other (layers_of c.args.counts.now.shape) (columns_in c.args.counts.now) c.args.wish c.requires
    c.in-Clear.e c.alias-word.result c.count.result c.count-else-count-gt0.result c.in-Clear.is c.alias-word.ensures c.count.ensures
    c.if-count-gt0.false c.count-else-count-gt0.ensures

pub returns-in-Least : goal.returns-in-Least
returns-in-Least c =
    least_by (layers_of c.args.counts.now.shape) (columns_in c.args.counts.now) c.args.wish c.requires
    c.in-Least.r c.resolution.result _ c.is_some_and.result c.in-Least.is c.resolution.ensures c.is_some_and.ensures (λ j h. search rules)
