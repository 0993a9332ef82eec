use Rattle.std.proofs.Common.{ℕ, List, sym, subst}
use Rattle.opening.specs.declared.Shape.{Shape}
use Rattle.figures.specs.Counted.{columns_in}
use Rattle.key.specs.Questions.{columns_of, Making}
use Rattle.wishes.specs.Standings.{wishes_in}
use Rattle.finding.specs.Best.{by_tally, FirstBest, Finding, Wished}
use Rattle.finding.proofs.Soundest.{made_best, none_sound, finding_sound}
use Rattle.finding.proofs.best.first_best.Goals as goal

pub returns-in_err-best-clause-sound : goal.returns-in_err-best-clause-sound
returns-in_err-best-clause-sound g c =
    let standing = c.args.standing.now in
    let ranks = by_tally standing.shape (g.R.Ranking.scored c.args.ranking.now) (g.R.Ranking.ranked c.args.ranking.now) in
    let none = subst (Finding columns_in (Wished standing.shape (wishes_in standing)) ranks) c.in_err-best.was c.first_best_columns.ensures in
    rw c.from_residual.ensures (none_sound standing.shape (wishes_in standing) standing.formed none)

pub returns-clause-sound : goal.returns-clause-sound
returns-clause-sound g c =
    let standing = c.args.standing.now in
    let score = g.R.Ranking.scored c.args.ranking.now in
    let ranked = g.R.Ranking.ranked c.args.ranking.now in
    let ranks = by_tally standing.shape score ranked in
    let columns : List ℕ = c.columns.result.now in
    let best : FirstBest (Wished standing.shape (wishes_in standing)) ranks columns =
    subst (FirstBest (Wished standing.shape (wishes_in standing)) ranks) (sym c.columns.ensures)
    (subst (Finding columns_in (Wished standing.shape (wishes_in standing)) ranks) c.in_ok-best.was c.first_best_columns.ensures) in
    let made = subst (λ (shape : Shape). Making shape columns c.new.result) c.shape.ensures c.new.ensures in
    finding_sound standing.shape (wishes_in standing) standing.formed score ranked columns_of c.new.result
    (made_best standing.shape (wishes_in standing) ranks columns best c.new.result made)
