-- What a tally is worth at a weight a/b. Assumes nothing.
use Rattle.std.specs.Prelude.{◌≡◌, ℕ, ◌+◌, ◌*◌, refl}
use Rattle.theory.specs.declared.tally.Tally.{Tally}
use Rattle.ranking.specs.declared.verdict.Verdict.{Verdict}
use Rattle.ranking.specs.declared.verdict.Verdict.TheVariants.{Better, Worse}
use Rattle.ranking.specs.declared.weight.Worth.{Worth}
use Rattle.ranking.specs.Verdicts.{first_decisive, fewer}

-- a·M1 + b·M2, and a²·Q1 + b²·Q2
abbrev pub worth : ℕ → ℕ → Tally → Worth
worth a b t = record { sum = a * t.m1 + b * t.m2; squares = a * a * t.q1 + b * b * t.q2 }

-- the larger sum is better, and at equal sums the smaller squares
abbrev pub worthier : Worth → Worth → Verdict
worthier x y = first_decisive (fewer y.sum x.sum) (fewer x.squares y.squares)

example_sum : worthier (record { sum = 9; squares = 30 }) (record { sum = 8; squares = 20 }) ≡ Better
example_sum = refl

example_squares : worthier (record { sum = 8; squares = 30 }) (record { sum = 8; squares = 20 }) ≡ Worse
example_squares = refl
