use Rattle.std.proofs.Common.{[], None, refl, rules}
use Rattle.finding.proofs.Passing.{found_columns}
use Rattle.finding.proofs.judge.first_best_columns.Goals as goal

pub returns : goal.returns
returns g c =
    let ranking = c.args.ranking.now in
    let end = c.visit_standard_keys.ensures (record { ranking = c.args.ranking; standing = c.args.standing; best = None }) [] (refl, refl, λ key i. absurd i) in
    found_columns c.args.standing.now (g.R.Ranking.scored ranking) (g.R.Ranking.ranked ranking) (g.met.R.Ranking.order ranking) c.shape.result c.shape.ensures
    c.visit_standard_keys.new.visitor.best end.2 _ c.map.result c.map.ensures.cases (λ kept h. search rules)
