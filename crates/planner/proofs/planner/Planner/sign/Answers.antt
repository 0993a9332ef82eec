use Rattle.planner.specs.Entries as asked
use Rattle.planner.proofs.Going.{asked_of}
use Rattle.planner.proofs.planner.Planner.sign.Goals as goal

pub returns : goal.returns
returns g c =
    asked_of g.R.Ranking.scored g.R.Ranking.ranked c.args.self.now (asked.sign c.args.effect c.args.run c.sign.result) c.in_ok-standing_plan.field-0.now c.in_ok-standing_plan.ensures c.sign.ensures.answer
