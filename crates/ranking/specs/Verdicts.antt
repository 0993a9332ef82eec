-- Verdicts on two things, the first against the second. Assumes nothing.
use Rattle.std.specs.Prelude.{◌≡◌, ℕ, refl}
use Rattle.std.specs.declared.cmp.Ordering.{Ordering}
use Rattle.std.specs.declared.cmp.Ordering.TheVariants.{Less, Equal, Greater}
use Rattle.std.specs.Ordering.{nat_cmp}
use Rattle.ranking.specs.declared.verdict.Verdict.{Verdict}
use Rattle.ranking.specs.declared.verdict.Verdict.TheVariants.{Better, Level, Worse}

-- the verdict on the same two, exchanged
abbrev pub swapped : Verdict → Verdict
swapped Better = Worse
swapped Level = Level
swapped Worse = Better

-- not worse
abbrev pub HoldsUp : Verdict → Type 0
HoldsUp Better = Unit {0}
HoldsUp Level = Unit {0}
HoldsUp Worse = ⊥

-- the first verdict, or the second where the first is level
abbrev pub first_decisive : Verdict → Verdict → Verdict
first_decisive Better _ = Better
first_decisive Level v = v
first_decisive Worse _ = Worse

-- less is better
abbrev pub verdict_of : Ordering → Verdict
verdict_of Less = Better
verdict_of Equal = Level
verdict_of Greater = Worse

-- of two numbers the smaller is better
abbrev pub fewer : ℕ → ℕ → Verdict
fewer a b = verdict_of (nat_cmp a b)

example_fewer : fewer 3 5 ≡ Better
example_fewer = refl

example_level : fewer 4 4 ≡ Level
example_level = refl

example_swapped : fewer 5 3 ≡ swapped (fewer 3 5)
example_swapped = refl

example_first_decisive : first_decisive (fewer 4 4) (fewer 5 3) ≡ Worse
example_first_decisive = refl
