-- The least length of a defining word.
use Rattle.std.proofs.Common.{◌≡◌, ℕ, zero, suc, ◌+◌, ◌<◌, ◌≤◌, ◌≢◌, ◌⊎◌, Bool, cond, List, length, Some, None, Option, MatchOption, sym, refl, ap, ◌∙◌, inl, inr, arith}
use Rattle.std.proofs.lemmas.Bool.{cases_eq, eq-eqb, ne_eqb}
use Rattle.theory.specs.Tallies.{members, first_length, resolution}

-- r is the first of the m lengths from j on that some defining word has
abbrev pub IsFirst : List ℕ → ℕ → ℕ → Option ℕ → Type 0
IsFirst cs j m r =
    MatchOption r ((k : ℕ) → j ≤ k → k < m + j → members cs k 0 ≡ 0)
    (λ i. (j ≤ i) × (i < m + j) × (members cs i 0 ≢ 0) × ((k : ℕ) → j ≤ k → k < i → members cs k 0 ≡ 0))

first_is : (cs : List ℕ) (j m : ℕ) (r : Option ℕ) → IsFirst cs j m r → r ≡ first_length cs j m
first_is cs j zero None h = refl
first_is cs j zero (Some i) h = absurd (omega arith)
first_is cs j (suc m) None h =
    first_is cs (suc j) m None (λ k l u. h k (omega arith) (omega arith))
    ∙ ap (λ (b : Bool). cond b (first_length cs (suc j) m) (Some j)) (sym (eq-eqb (members cs j 0) 0 (h j (omega arith) (omega arith))))
first_is cs j (suc m) (Some i) h = go (cases_eq i j) (λ later. first_is cs (suc j) m (Some i) (later, omega arith, h.2, λ k l u. h.3 k (omega arith) u))
  where
    go : (i ≡ j) ⊎ (i ≡ j → ⊥) → (suc j ≤ i → Some i ≡ first_length cs (suc j) m) → Some i ≡ first_length cs j (suc m)
    go (inl e) on =
        ap Some e
        ∙ ap (λ (b : Bool). cond b (first_length cs (suc j) m) (Some j)) (sym (ne_eqb (members cs j 0) 0 (λ z. h.2 (ap (λ (k : ℕ). members cs k 0) e ∙ z))))
    go (inr n) on =
        on (omega arith)
        ∙ ap (λ (b : Bool). cond b (first_length cs (suc j) m) (Some j)) (sym (eq-eqb (members cs j 0) 0 (h.3 j (omega arith) (omega arith))))

pub resolution_is : (cs : List ℕ) (r : Option ℕ) → IsFirst cs 1 (length cs) r → r ≡ resolution cs
resolution_is cs r h = first_is cs 1 (length cs) r h
