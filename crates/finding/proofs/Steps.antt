-- One step of the walk.
use Rattle.std.proofs.Common.{◌≡◌, ℕ, zero, suc, ◌+◌, ◌-◌, ◌^◌, ◌<◌, cond, ◌||◌, eqb, List, [], ◌∷◌, ◌++◌, refl, arith}
use Rattle.std.proofs.lemmas.List.Recursion.{or_push}
use Rattle.finding.specs.declared.begun.Opened.{Opened}
use Rattle.finding.specs.Walks.{is_all, held, upto, keys_from, branch}

-- ---- a leaf and a node
module _ (w s n1 : ℕ) (used : List ℕ) (o : Opened) where
  -- the last column was placed
  pub leaf : (r : ℕ) → r ≡ 0 → keys_from w s n1 r used o ≡ cond (is_all w s o) (used ∷ []) []
  unfolding keys_from
  leaf r z = simp z

  -- one column more
  pub node : (r : ℕ) → 0 < r → keys_from w s n1 r used o ≡ upto (branch w s n1 (r - 1) used o) (2 ^ (w + s))
  unfolding keys_from
  node zero h = absurd (omega arith)
  node (suc r) h = let e : suc r - 1 ≡ r = omega arith in simp e

-- ---- the columns in use
pub held_more : (c d : ℕ) (cs : List ℕ) → held c (cs ++ d ∷ []) ≡ (held c cs || eqb d c)
held_more c d cs = or_push (held c) (λ d. eqb d c) refl (λ _ _. refl) cs d
