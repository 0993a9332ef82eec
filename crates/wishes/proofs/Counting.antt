-- Whether a wish is met, read off counts.
use Rattle.std.proofs.Common.{◌≡◌, ℕ, zero, suc, ◌^◌, ◌<◌, ◌≤◌, Bool, true, false, cond, ◌&&◌, eqb, ◌≢◌, ◌⊎◌, List, length, Some, None, sym, refl, ap, inl, inr, arith}
use lib.Count.{ones}
use Rattle.std.proofs.lemmas.Bool.{cases_eq, cases_order, cases_Bool, eq-eqb, eqb-true, and_parts, and_from}
use Rattle.theory.specs.declared.wish.Wish.TheVariants.{Clear, Least}
use Rattle.theory.specs.Words.{alias}
use Rattle.theory.specs.Laws.{Resolves}
use Rattle.theory.specs.Tallies.{count, members}
use Rattle.theory.specs.Wishes.{Meets}
use Rattle.theory.proofs.Counts.{count_mono}
use Rattle.theory.proofs.Defining.{count_none, count_some}

-- ---- two numbers that pass
one_of : (b : Bool) → b ≡ true → ◌≡◌ {A = ℕ} (cond b 1 0) 1
one_of b t = ap {B = ℕ} (λ (x : Bool). cond x 1 0) t

count_pos : (p : ℕ → Bool) (n e : ℕ) → e < n → p e ≡ true → 1 ≤ count p n
count_pos p n e h t = omega (arith, count_mono p (suc e) n h, one_of (p e) t)

-- where one passes and only one is counted, any that passes is that one
pub count_only : (p : ℕ → Bool) (n e f : ℕ) → e < n → f < n → p e ≡ true → p f ≡ true → count p n ≤ 1 → f ≡ e
count_only p n e f he hf te tf few = go (cases_order e f)
  where
    two : (a b : ℕ) → a < b → b < n → p a ≡ true → p b ≡ true → ⊥
    two a b l h ta tb = omega (arith, count_pos p b a l ta, count_mono p (suc b) n h, one_of (p b) tb)

    go : (e ≡ f) ⊎ ((e < f) ⊎ (f < e)) → f ≡ e
    go (inl s) = sym s
    go (inr (inl l)) = absurd (two e f l hf te tf)
    go (inr (inr l)) = absurd (two f e l he tf te)

-- where two are counted, one is another than e
pub count_other : (p : ℕ → Bool) (n e : ℕ) → 1 < count p n → (f : ℕ) × (f < n) × (p f ≡ true) × (f ≢ e)
count_other p zero e l = absurd (omega arith)
count_other p (suc n) e l = go (cases_eq n e) (cases_Bool (p n)) (count_other p n e)
  where
    go : (n ≡ e) ⊎ (n ≡ e → ⊥) → (p n ≡ true) ⊎ (p n ≡ false) → (1 < count p n → (f : ℕ) × (f < n) × (p f ≡ true) × (f ≢ e)) → (f : ℕ) × (f < suc n) × (p f ≡ true) × (f ≢ e)
    go (inl s) (inl t) rec =
        let k = count_some p n (λ z. omega (arith, one_of (p n) t)) in
        (k.0, omega (arith, k.1), k.2, λ same. omega (arith, k.1))
    go (inr d) (inl t) rec = (n, omega arith, t, d)
    go s (inr t) rec =
        let k = rec (omega (arith, ap {B = ℕ} (λ (x : Bool). cond x 1 0) t)) in
        (k.0, omega (arith, k.1), k.2, k.3)

module _ (ws cs : List ℕ) where
  -- ---- clear
  abbrev counted : ℕ → ℕ → ℕ → Bool
  counted j v e = eqb (ones e) j && eqb (alias cs e) v

  counted_from : (j v e : ℕ) → ones e ≡ j → alias cs e ≡ v → counted j v e ≡ true
  counted_from j v e long at = and_from (eqb (ones e) j) (eqb (alias cs e) v) (eq-eqb (ones e) j long) (eq-eqb (alias cs e) v at)

  counted_to : (j v e : ℕ) → counted j v e ≡ true → (ones e ≡ j) × (alias cs e ≡ v)
  counted_to j v e t =
      let both = and_parts (eqb (ones e) j) (eqb (alias cs e) v) t in
      (eqb-true (ones e) j both.0, eqb-true (alias cs e) v both.1)

  module _ (e : ℕ) (below : e < 2 ^ length cs) (pair : ones e ≡ 2) where
    abbrev word : ℕ
    word = alias cs e

    pub clear_met : members cs 1 word ≡ 0 → members cs 2 word ≤ 1 → Meets ws cs (Clear e)
    clear_met none few f h at = (
      λ one. count_none (counted 1 word) (2 ^ length cs) none f h (counted_from 1 word f one at),
      λ two. count_only (counted 2 word) (2 ^ length cs) e f below h (counted_from 2 word e pair refl) (counted_from 2 word f two at) few,
    )

    pub clear_main : members cs 1 word ≢ 0 → Meets ws cs (Clear e) → ⊥
    clear_main some met =
        let k = count_some (counted 1 word) (2 ^ length cs) some in
        let is = counted_to 1 word k.0 k.2 in
        (met k.0 k.1 is.1).0 is.0

    pub clear_other : 1 < members cs 2 word → Meets ws cs (Clear e) → ⊥
    clear_other many met =
        let k = count_other (counted 2 word) (2 ^ length cs) e many in
        let is = counted_to 2 word k.0 k.2 in
        k.3 ((met k.0 k.1 is.1).1 is.0)

  -- ---- least
  pub least_none : (r : ℕ) → Resolves cs None → Meets ws cs (Least r)
  least_none r none f h nonzero at = absurd (none f (h, nonzero, at))

  pub least_met : (r j : ℕ) → Resolves cs (Some j) → r ≤ j → Meets ws cs (Least r)
  least_met r j least l f h nonzero at = omega (arith, least.1 f (h, nonzero, at))

  pub least_short : (r j : ℕ) → Resolves cs (Some j) → j < r → Meets ws cs (Least r) → ⊥
  least_short r j least l met =
      let k = least.0 in
      omega (arith, met k.0 k.1.0 k.1.1 k.1.2, k.2)
