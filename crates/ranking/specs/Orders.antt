-- The law of order, and how a ranking of scores ranks keys. Assumes nothing.
use Rattle.std.specs.Prelude.{◌≡◌, ℕ, List, [], ◌∷◌, refl}
use Rattle.std.specs.Int.Count.{ones, ones_in}
use Rattle.theory.specs.Tallies.{tally}
use Rattle.ranking.specs.declared.verdict.Verdict.{Verdict}
use Rattle.ranking.specs.declared.verdict.Verdict.TheVariants.{Better, Level}
use Rattle.ranking.specs.Verdicts.{swapped, HoldsUp, fewer}

-- The law of order. That the same question has the same answer is said by `ranks` being a function.
pub record Order {S : Type 0} (ranks : S → S → Verdict) : Type 0 where
  -- a score is level with itself
  pub self_level : (x : S) → ranks x x ≡ Level
  -- exchanging two scores exchanges better and worse
  pub exchange : (x y : S) → ranks y x ≡ swapped (ranks x y)
  -- if x is not worse than y, nor y than z, then x is not worse than z
  pub transitive : (x y z : S) → HoldsUp (ranks x y) → HoldsUp (ranks y z) → HoldsUp (ranks x z)

-- One key ranks better than, level with or worse than another as the ranking says of the scores of their tallies, its
-- own first. `score` takes a key to the score of its tally.
abbrev pub by_score : {S X : Type 0} → (X → S) → (S → S → Verdict) → X → X → Verdict
by_score score ranks x y = ranks (score x) (score y)

-- Two keys for factors A, B, p and q: the one has the defining word ABpq, the other Apq. Where fewer words of length 3
-- are better, the one is better.
example_by_score : by_score (λ (key : List ℕ). (tally (2 ∷ 1 ∷ []) key).a3) fewer (1 ∷ 2 ∷ 4 ∷ 7 ∷ []) (1 ∷ 2 ∷ 4 ∷ 5 ∷ []) ≡ Better
unfolding tally ones ones_in
example_by_score = refl
