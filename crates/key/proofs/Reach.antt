-- The words that columns reach, one column after another.
use Rattle.std.proofs.Common.{◌≡◌, ℕ, zero, suc, ◌+◌, ◌*◌, ◌/◌, ◌%◌, ◌^◌, ◌<◌, ◌≤◌, Bool, true, false, ◌||◌, ◌⊎◌, List, [], ◌∷◌, ◌++◌, length, get_or, take, set, replicate, IsTrue, ◌↔◌, sym, refl, ap, ◌∙◌, subst, inl, inr, true≢false, mod-lt, div-lt_iff_lt-mul, one-mul, pow-suc, zero-mul, add-one, arith, pow_pos}
use mathlib.Core.Bool.{Bool-set}
use mathlib.Core.Logic.{∥∥₁_elim, ∥∥₁_map}
use native.Mathlib.Nat.{div-eq_of_lt}
use lib.Bits.{bit_xor, xor_zero_r}
use lib.Pow.{high, low}
use Rattle.std.proofs.lemmas.List.{length_push, take_more, take_all, get_or-replicate}
use Rattle.std.proofs.lemmas.Bool.{or_cases, or_left, or_right, cases_eq}
use Rattle.theory.specs.Words.{alias}
use Rattle.theory.proofs.Words.{alias_mod, cancel_r}
use Rattle.theory.proofs.Linear.{alias_append}

-- some effect has the alias v
abbrev pub Reach : List ℕ → ℕ → Type 0
Reach cs v = ∥ ((e : ℕ) × (e < 2 ^ length cs) × (alias cs e ≡ v)) ∥₁

-- one more column comes in where the effect has its factor
alias_more : (cs : List ℕ) (c e : ℕ) → alias (cs ++ c ∷ []) e ≡ bit_xor (alias cs e) (e / 2 ^ length cs % 2 * c)
alias_more cs c e = alias_append cs (c ∷ []) e ∙ ap (bit_xor (alias cs e)) (xor_zero_r (e / 2 ^ length cs % 2 * c))

module _ (cs : List ℕ) (c v : ℕ) where
  twice : 2 ^ length (cs ++ c ∷ []) ≡ 2 ^ length cs * 2
  twice = ap (λ (n : ℕ). 2 ^ n) (length_push cs c ∙ add-one (length cs)) ∙ pow-suc 2 (length cs)

  -- effects without the new factor, and with it
  without : (e : ℕ) → e / 2 ^ length cs ≡ 0 → alias (cs ++ c ∷ []) e ≡ alias cs e
  without e h = alias_more cs c e ∙ ap (bit_xor (alias cs e)) (ap (λ (x : ℕ). x % 2 * c) h ∙ zero-mul c) ∙ xor_zero_r (alias cs e)

  with' : (e : ℕ) → e / 2 ^ length cs ≡ 1 → alias (cs ++ c ∷ []) e ≡ bit_xor (alias cs e) c
  with' e h = alias_more cs c e ∙ ap (bit_xor (alias cs e)) (ap (λ (x : ℕ). x % 2 * c) h ∙ one-mul c)

  reach_old : Reach cs v → Reach (cs ++ c ∷ []) v
  reach_old r = ∥∥₁_map r (λ x. (x.0, omega (arith, twice, x.1), without x.0 (div-eq_of_lt x.1) ∙ x.2))

  reach_new : Reach cs (bit_xor v c) → Reach (cs ++ c ∷ []) v
  reach_new r = ∥∥₁_map r (λ x.
      let e : ℕ = 1 * 2 ^ length cs + x.0 in (
        e,
        omega (arith, twice, one-mul (2 ^ length cs), x.1),
        with' e (high 1 (length cs) x.1)
            ∙ ap (λ (y : ℕ). bit_xor y c) (sym (alias_mod cs e) ∙ ap (alias cs) (low 1 (length cs) x.1) ∙ x.2) ∙ cancel_r v c,
      ))

  -- what is reached with the column is reached without it, or so is its product with the column
  reach_cases : (P : Type 0) → IsProp P → (Reach cs v → P) → (Reach cs (bit_xor v c) → P) → Reach (cs ++ c ∷ []) v → P
  reach_cases P prop old new r = ∥∥₁_elim r prop (λ x. at x.0 x.1 x.2)
    where
      at : (e : ℕ) → e < 2 ^ length (cs ++ c ∷ []) → alias (cs ++ c ∷ []) e ≡ v → P
      at e h is = go (e / 2 ^ length cs) refl ((div-lt_iff_lt-mul (pow_pos (length cs))).1 (omega (arith, twice)))
        where
          short : (u : ℕ) → alias cs e ≡ u → Reach cs u
          short u f = ∣ (e % 2 ^ length cs, mod-lt e (pow_pos (length cs)), alias_mod cs e ∙ f) ∣₁

          go : (d : ℕ) → e / 2 ^ length cs ≡ d → d < 2 → P
          go zero s l = old (short v (sym (without e s) ∙ is))
          go (suc zero) s l = new (short (bit_xor v c) (sym (cancel_r (alias cs e) c) ∙ ap (λ (y : ℕ). bit_xor y c) (sym (with' e s) ∙ is)))
          go (suc (suc d)) s l = absurd (omega arith)

  -- the marks of one more column
  pub reach_more : (a b : Bool) → (IsTrue a ↔ Reach cs v) → (IsTrue b ↔ Reach cs (bit_xor v c)) → (IsTrue (a || b) ↔ Reach (cs ++ c ∷ []) v)
  reach_more a b p q = (
    λ t. by (or_cases a b t),
    reach_cases ((a || b) ≡ true) (Bool-set (a || b) true) (λ r. or_left a b (p.1 r)) (λ r. or_right a b (q.1 r)),
  )
    where
      by : (a ≡ true) ⊎ (b ≡ true) → Reach (cs ++ c ∷ []) v
      by (inl e) = reach_old (p.0 e)
      by (inr e) = reach_new (q.0 e)

-- no column reaches 0 alone
pub reach_none : (v : ℕ) (a : Bool) → (v ≡ 0 → a ≡ true) → ((v ≡ 0 → ⊥) → a ≡ false) → (IsTrue a ↔ Reach [] v)
reach_none v a yes' no' = (λ t. by t (cases_eq v 0), λ r. ∥∥₁_elim r (Bool-set a true) (λ x. yes' (sym x.2)))
  where
    by : a ≡ true → (v ≡ 0) ⊎ (v ≡ 0 → ⊥) → Reach [] v
    by t (inl z) = ∣ (0, omega arith, sym z) ∣₁
    by t (inr n) = absurd (true≢false (sym t ∙ no' n))

-- the one mark at the start is of word 0
pub marks_none : (v : ℕ) → v < 32 → (IsTrue (get_or (set (replicate 32 false) 0 true) v false) ↔ Reach [] v)
marks_none zero h = reach_none zero true (λ _. refl) (λ n. absurd (n refl))
marks_none (suc v) h = reach_none (suc v) (get_or (replicate 31 false) v false) (λ e. absurd (omega arith)) (λ _. get_or-replicate 31 v false false (omega arith))

-- the marks after column i, where b is the mark of v
pub marks_more : (cs : List ℕ) (i v : ℕ) (a b d : Bool) → i < length cs → (IsTrue a ↔ Reach (take i cs) v) → (IsTrue b ↔ Reach (take i cs) (bit_xor v (get_or cs i 0)))
    → d ≡ (a || b) → (IsTrue d ↔ Reach (take (i + 1) cs) v)
marks_more cs i v a b d h p q e =
    subst (λ (x : Bool). IsTrue x ↔ Reach (take (i + 1) cs) v) (sym e)
    (subst (λ (xs : List ℕ). IsTrue (a || b) ↔ Reach xs v) (sym (take_more cs i 0 h)) (reach_more (take i cs) (get_or cs i 0) v a b p q))

-- after the last column they are of all columns
pub marks_all : (cs : List ℕ) (i v : ℕ) (b : Bool) → length cs ≤ i → (IsTrue b ↔ Reach (take i cs) v) → (IsTrue b ↔ Reach cs v)
marks_all cs i v b h d = subst (λ (xs : List ℕ). IsTrue b ↔ Reach xs v) (take_all i cs h) d
