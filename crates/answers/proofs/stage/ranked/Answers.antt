use Rattle.std.proofs.Common.{Ok, Result, refl, subst}
use Rattle.opening.specs.declared.Shape.{Shape}
use Rattle.ranking.specs.Aberrations.{shortest, fewest}
use Rattle.lines.specs.declared.ranking.RankingName.{RankingName}
use Rattle.lines.specs.declared.ranking.RankingName.TheVariants.{Aberration}
use Rattle.sheet.specs.declared.fault.LineFault.{LineFault}
use Rattle.planner.specs.Openings.{Begins}
use Rattle.spelling.specs.declared.answer.Answer.TheVariants.{Nothing}
use Rattle.answers.specs.declared.desk.Desk.{Desk}
use Rattle.answers.specs.declared.stage.Stage.TheVariants as at
use Rattle.answers.specs.Stepped.{Ranked, Outcome}
use Rattle.answers.proofs.stage.ranked.Goals as goal

begun : (name : RankingName) (shape : Shape) (desk : Desk) → Begins (λ _. shortest) (λ _. fewest) shape desk.planner.ranking desk.planner → Ranked shape (Ok name) (Ok (Nothing, at.Orders desk))
begun Aberration shape desk begins = (desk, begins, refl)

pub returns : goal.returns
returns c =
    let desk : Desk = record { planner = c.of-planner.result } in
    let r : Outcome LineFault = Ok (Nothing, at.Orders desk) in
    subst (λ (read : Result RankingName LineFault). Ranked c.args.shape read r) c.in_ok-read_ranking.ensures (begun _ c.args.shape desk c.of-planner.ensures)
