use Rattle.std.proofs.Common.{[], ◌∷◌, ◌++◌, ◌∙◌, subst}
use Rattle.figures.specs.Counted.{columns_in}
use Rattle.opening.specs.Shapes.{layers_of}
use Rattle.wishes.specs.declared.standing.Standing.{Standing}
use Rattle.wishes.specs.Standings.{wishes_in}
use Rattle.finding.specs.Leading.{PassesAll, Takes}
use Rattle.finding.proofs.Judging.{keep_old, keep_taken}
use Rattle.finding.proofs.judge.JudgeVisit.visit.Goals as goal

pub returns-then-is_beaten_by : goal.returns-then-is_beaten_by
returns-then-is_beaten_by g c u keys fits h =
    let self = c.args.self.now in
    let counts = c.args.counts.now in
    let takes = subst (λ (s : Standing). Takes (PassesAll (layers_of counts.shape) (wishes_in s)) (columns_in counts ++ c.args.column ∷ []) c.score-score.result self.best c.take.new.self.best) h.1 (c.take.ensures.best fits) in (
      c.take.ensures.judge.0 ∙ h.0,
      c.take.ensures.judge.1 ∙ h.1,
      keep_taken g.R.Ranking.scored g.R.Ranking.ranked g.met.R.Ranking.order counts c.args.column fits u.ranking.now self.ranking.now h.0
          c.in-Some.tally c.in-Some.ensures c.score-score.result c.score-score.ensures (PassesAll (layers_of counts.shape) (wishes_in u.standing.now)) keys self.best h.2
          c.is_beaten_by.result c.is_beaten_by.ensures c.if-is_beaten_by.true c.take.new.self.best takes,
    )

pub returns-else-is_beaten_by : goal.returns-else-is_beaten_by
returns-else-is_beaten_by g c u keys fits h =
    let self = c.args.self.now in
    let counts = c.args.counts.now in (
      h.0,
      h.1,
      keep_old g.R.Ranking.scored g.R.Ranking.ranked g.met.R.Ranking.order counts c.args.column fits u.ranking.now self.ranking.now h.0
          c.in-Some.tally c.in-Some.ensures c.score-score.result c.score-score.ensures (PassesAll (layers_of counts.shape) (wishes_in u.standing.now)) keys self.best h.2
          c.is_beaten_by.result c.is_beaten_by.ensures c.if-is_beaten_by.false,
    )
