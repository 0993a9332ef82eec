-- Aberration: at the first length where the numbers of defining words differ, fewer is better. Assumes nothing.
use Rattle.std.specs.Prelude.{◌≡◌, refl}
use Rattle.theory.specs.declared.tally.Tally.{Tally}
use Rattle.ranking.specs.declared.verdict.Verdict.{Verdict}
use Rattle.ranking.specs.declared.verdict.Verdict.TheVariants.{Better}
use Rattle.ranking.specs.declared.aberration.WordCounts.{WordCounts}
use Rattle.ranking.specs.Verdicts.{first_decisive, fewer}

-- the numbers of the shortest defining words, those of length 3 to 6
abbrev pub shortest : Tally → WordCounts
shortest t = record { a3 = t.a3; a4 = t.a4; a5 = t.a5; a6 = t.a6 }

-- fewer at the first length where they differ; level if there is none
abbrev pub fewest : WordCounts → WordCounts → Verdict
fewest x y = first_decisive (fewer x.a3 y.a3) (first_decisive (fewer x.a4 y.a4) (first_decisive (fewer x.a5 y.a5) (fewer x.a6 y.a6)))

-- equal at length 3, fewer at length 4
example_fewest : fewest (record { a3 = 1; a4 = 2; a5 = 9; a6 = 0 }) (record { a3 = 1; a4 = 3; a5 = 0; a6 = 0 }) ≡ Better
example_fewest = refl
