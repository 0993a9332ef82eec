-- One ranking on another. Assumes nothing.
use Rattle.std.specs.Prelude.{◌≡◌, refl}
use Rattle.theory.specs.declared.tally.Tally.{Tally}
use Rattle.ranking.specs.declared.verdict.Verdict.{Verdict}
use Rattle.ranking.specs.declared.verdict.Verdict.TheVariants.{Better, Worse}
use Rattle.ranking.specs.Verdicts.{first_decisive, fewer}

-- both scores of a tally
abbrev pub both : {S T : Type 0} → (Tally → S) → (Tally → T) → Tally → S × T
both first second t = (first t, second t)

-- the first scores decide, and the second ones where the first are level
abbrev pub in_turn : {S T : Type 0} → (S → S → Verdict) → (T → T → Verdict) → S × T → S × T → Verdict
in_turn first second x y = first_decisive (first x.0 y.0) (second x.1 y.1)

example_first : in_turn fewer fewer (1, 9) (2, 3) ≡ Better
example_first = refl

example_second : in_turn fewer fewer (2, 9) (2, 3) ≡ Worse
example_second = refl
