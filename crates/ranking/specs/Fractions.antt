-- The fractions that a weight may be. Assumes nothing.
use Rattle.std.specs.Prelude.{ℕ, ◌≤◌}
use Rattle.std.proofs.Common.{arith}

-- b is from 1 to 1000 and a from 0 to b
abbrev pub Fraction : ℕ → ℕ → Type 0
Fraction a b = (1 ≤ b) × (b ≤ 1000) × (a ≤ b)

-- 0/1 and 1000/1000 are among them, 2/1 is not
example_least : Fraction 0 1
example_least = (omega arith, omega arith, omega arith)

example_most : Fraction 1000 1000
example_most = (omega arith, omega arith, omega arith)

example_none : Fraction 2 1 → ⊥
example_none h = omega arith
