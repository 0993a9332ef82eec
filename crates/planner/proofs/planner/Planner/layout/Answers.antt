use Rattle.planner.specs.Entries as asked
use Rattle.planner.proofs.Going.{asked_of}
use Rattle.planner.proofs.planner.Planner.layout.Goals as goal

pub returns : goal.returns
returns g c =
    asked_of g.R.Ranking.scored g.R.Ranking.ranked c.args.self.now (asked.layout c.args.out.now c.layout.result c.layout.new.out) c.in_ok-standing_plan.field-0.now c.in_ok-standing_plan.ensures (c.layout.ensures.answer, c.layout.ensures.buffer)
