-- The sums over the two layers of words, and the tally that they make.
use Rattle.std.proofs.Common.{◌≡◌, ℕ, ◌+◌, ◌*◌, ◌^◌, ◌<◌, ◌≤◌, Bool, cond, ◌&&◌, eqb, ◌≢◌, ◌⊎◌, List, [], ◌∷◌, ap, inl, inr, arith, pow_pos, pow_mono}
use Rattle.std.proofs.lemmas.Bool.{cases_eq, eq-eqb, ne_eqb}
use Rattle.theory.specs.Words.{total, stratum}
use Rattle.theory.specs.Keys.{Words}
use Rattle.theory.specs.Tallies.{members, sum_to, free, free_pairs, free_squares}
use Rattle.theory.proofs.Sums.{sum_window}
use Rattle.theory.proofs.Plots.{stratum_1, stratum_2}
use Rattle.theory.proofs.Tables.{words_fact}
use Rattle.opening.specs.Shapes.{units_of}
use Rattle.opening.specs.declared.Shape.{Shape}
use Rattle.figures.specs.Counted.{unmixed, unmixed_square}

-- ---- a layer of words: those from a up to b are of stratum l, and no others
module _ (ws cs : List ℕ) (l a b : ℕ) (ab : a ≤ b) (bk : b ≤ 2 ^ total ws)
    (low : (v : ℕ) → v < a → stratum ws v ≢ l) (mid : (v : ℕ) → a ≤ v → v < b → stratum ws v ≡ l) (high : (v : ℕ) → b ≤ v → v < 2 ^ total ws → stratum ws v ≢ l) where
  pub layer_sum : (x : ℕ → ℕ) → sum_to (λ v. cond (eqb (members cs 1 v) 0) (x v) 0) a + sum_to (λ v. cond (free ws cs l v) (x v) 0) (2 ^ total ws) ≡ sum_to (λ v. cond (eqb (members cs 1 v) 0) (x v) 0) b
  layer_sum x =
      sum_window (λ v. cond (eqb (members cs 1 v) 0) (x v) 0) (λ v. cond (free ws cs l v) (x v) 0) a b (2 ^ total ws) ab bk
      (λ v h. off v (low v h)) (λ v h k. on v (mid v h k)) (λ v h k. off v (high v h k))
    where
      off : (v : ℕ) → stratum ws v ≢ l → cond (free ws cs l v) (x v) 0 ≡ 0
      off v n = ap (λ (t : Bool). cond (t && eqb (members cs 1 v) 0) (x v) 0) (ne_eqb (stratum ws v) l n)

      on : (v : ℕ) → stratum ws v ≡ l → cond (free ws cs l v) (x v) 0 ≡ cond (eqb (members cs 1 v) 0) (x v) 0
      on v e = ap (λ (t : Bool). cond (t && eqb (members cs 1 v) 0) (x v) 0) (eq-eqb (stratum ws v) l e)

module _ (w s : ℕ) (cs : List ℕ) (words : Words (w ∷ s ∷ []) cs) where
  abbrev ws : List ℕ
  ws = w ∷ s ∷ []

  low_le : 2 ^ w ≤ 2 ^ total ws
  low_le = pow_mono (omega arith)

  -- words from 1 up to 2 ^ w are whole-plot words
  whole : (x : ℕ → ℕ) → sum_to (λ v. cond (eqb (members cs 1 v) 0) (x v) 0) 1 + sum_to (λ v. cond (free ws cs 1 v) (x v) 0) (2 ^ total ws) ≡ sum_to (λ v. cond (eqb (members cs 1 v) 0) (x v) 0) (2 ^ w)
  whole =
      layer_sum ws cs 1 1 (2 ^ w) (pow_pos w) low_le
      (λ v h e. let z : v ≡ 0 = omega arith in omega (arith, ap (stratum ws) z))
      (λ v h k. stratum_1 w s v (λ z. omega arith) k)
      (λ v h k e. omega (arith, stratum_2 w s v h))

  -- words from 2 ^ w on are subplot words
  sub : (x : ℕ → ℕ) → sum_to (λ v. cond (eqb (members cs 1 v) 0) (x v) 0) (2 ^ w) + sum_to (λ v. cond (free ws cs 2 v) (x v) 0) (2 ^ total ws) ≡ sum_to (λ v. cond (eqb (members cs 1 v) 0) (x v) 0) (2 ^ total ws)
  sub =
      layer_sum ws cs 2 (2 ^ w) (2 ^ total ws) low_le (omega arith)
      (λ v h e. low v h (cases_eq v 0) e) (λ v h k. stratum_2 w s v h) (λ v h k e. omega arith)
    where
      low : (v : ℕ) → v < 2 ^ w → (v ≡ 0) ⊎ (v ≡ 0 → ⊥) → stratum ws v ≢ 2
      low v h (inl z) e = let zero_is : stratum ws v ≡ 0 = ap (stratum ws) z in omega arith
      low v h (inr n) e = omega (arith, stratum_1 w s v n h)

  pub whole_pairs : (m : ℕ) → sum_to (unmixed cs) 1 + m ≡ sum_to (unmixed cs) (2 ^ w) → m ≡ free_pairs ws cs 1
  whole_pairs m e = omega (arith, whole (members cs 2), words_fact ws cs 1 words)

  pub whole_squares : (q : ℕ) → sum_to (unmixed_square cs) 1 + q ≡ sum_to (unmixed_square cs) (2 ^ w) → q ≡ free_squares ws cs 1
  whole_squares q e = omega (arith, whole (λ v. members cs 2 v * members cs 2 v))

  pub sub_pairs : (m : ℕ) → sum_to (unmixed cs) (2 ^ w) + m ≡ sum_to (unmixed cs) (2 ^ total ws) → m ≡ free_pairs ws cs 2
  sub_pairs m e = omega (arith, sub (members cs 2), words_fact ws cs 2 words)

  pub sub_squares : (q : ℕ) → sum_to (unmixed_square cs) (2 ^ w) + q ≡ sum_to (unmixed_square cs) (2 ^ total ws) → q ≡ free_squares ws cs 2
  sub_squares q e = omega (arith, sub (λ v. members cs 2 v * members cs 2 v))

pub plots_le : (shape : Shape) → 2 ^ shape.w ≤ 2 ^ units_of shape
plots_le shape = pow_mono (omega arith)
