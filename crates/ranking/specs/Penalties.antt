-- The penalty of a tally. Assumes nothing.
use Rattle.std.specs.Prelude.{◌≡◌, ℕ, ◌+◌, ◌*◌, refl}
use Rattle.theory.specs.declared.tally.Tally.{Tally}

-- each defining word costs by its length: from 3 to 10 the costs are 64, 16, 4, 1, 0, 0, 0 and 0
abbrev pub penalty : Tally → ℕ
penalty t = 64 * t.a3 + 16 * t.a4 + 4 * t.a5 + 1 * t.a6 + 0 * t.a7 + 0 * t.a8 + 0 * t.a9 + 0 * t.a10

-- one word of each length
example_penalty : penalty (record { a3 = 1; a4 = 1; a5 = 1; a6 = 1; a7 = 1; a8 = 1; a9 = 1; a10 = 1; m1 = 0; m2 = 0; q1 = 0; q2 = 0 }) ≡ 85
example_penalty = refl
