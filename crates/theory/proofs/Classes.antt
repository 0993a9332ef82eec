-- Every unit word of a sound key is the alias of equally many effects.
use Rattle.std.proofs.Common.{◌≡◌, ℕ, zero, suc, ◌+◌, ◌-◌, ◌*◌, ◌/◌, ◌%◌, ◌^◌, ◌<◌, ◌≤◌, Bool, true, false, cond, eqb, ◌⊎◌, List, [], ◌∷◌, ◌++◌, length, filter, sym, refl, ap, ◌∙◌, subst, ap₂, inl, inr, map-id, mod-lt, mod-eq_of_lt, add_comm, pow-suc, sub-add_cancel, add-one, arith, length-append, pow_pos, pow-add, shr_lt}
use native.Mathlib.Nat.{eq_of_mul-eq-mul_left}
use lib.Bits.{bit_xor, xor_block, xor_self}
use lib.Pow.{split}
use Rattle.std.specs.List.{range_with_len}
use Rattle.std.proofs.lemmas.List.{append-nil}
use Rattle.std.proofs.lemmas.List.FromFn.{filter_of_map_range_with_len_more}
use Rattle.std.proofs.lemmas.Bool.{cases_eq, eq-eqb, ne_eqb}
use Rattle.theory.specs.Words.{total, alias}
use Rattle.theory.specs.Keys.{Sound}
use Rattle.theory.specs.Tallies.{count, sum_to}
use Rattle.theory.proofs.Counts.{count_same, count_twice}
use Rattle.theory.proofs.Sums.{sum_add, sum_zero, sum_const}
use Rattle.theory.proofs.Words.{cancel_r}
use Rattle.theory.proofs.Linear.{alias_xor}
use Rattle.theory.proofs.Sounds.{alias_word, an_effect}
use Rattle.theory.proofs.Pigeon.{pigeon, exp_le}

-- ---- reordering by a product

digit_cases : (x : ℕ) → x < 2 → (x ≡ 0) ⊎ (x ≡ 1)
digit_cases zero h = inl refl
digit_cases (suc zero) h = inr refl
digit_cases (suc (suc x)) h = absurd (omega arith)

-- a product by its lowest bit
xor_low : (u d x : ℕ) → d < 2 → bit_xor (u * 2 + d) x ≡ bit_xor u (x / 2) * 2 + bit_xor d (x % 2)
xor_low u d x h = ap (bit_xor (u * 2 + d)) (sym (split x 1)) ∙ xor_block 1 u (x / 2) d (x % 2) h (omega arith)

-- multiplying every number below 2 ^ n by one of them is an exchange
pub count_xor : (n : ℕ) (p : ℕ → Bool) (x : ℕ) → x < 2 ^ n → count (λ u. p (bit_xor u x)) (2 ^ n) ≡ count p (2 ^ n)
count_xor zero p x h = ap (λ (v : ℕ). 0 + cond (p v) 1 0) (omega arith)
count_xor (suc n) p x h =
    ap (count (λ u. p (bit_xor u x))) (pow-suc 2 n) ∙ count_twice (λ u. p (bit_xor u x)) (2 ^ n)
    ∙ go (λ q. count_xor n q (x / 2) (shr_lt n 1 (subst (λ (m : ℕ). x < 2 ^ m) (sym (add-one n)) h))) (digit_cases (x % 2) (omega arith)) ∙ sym (ap (count p) (pow-suc 2 n) ∙ count_twice p (2 ^ n))
  where
    Rec : Type 0
    Rec = (q : ℕ → Bool) → count (λ u. q (bit_xor u (x / 2))) (2 ^ n) ≡ count q (2 ^ n)

    -- the numbers with lowest bit d go to those with lowest bit d + x
    moved : Rec → (d e : ℕ) → d < 2 → bit_xor d (x % 2) ≡ e → count (λ u. p (bit_xor (u * 2 + d) x)) (2 ^ n) ≡ count (λ u. p (u * 2 + e)) (2 ^ n)
    moved rec d e l s =
        count_same (λ u. p (bit_xor (u * 2 + d) x)) (λ u. p (bit_xor u (x / 2) * 2 + e)) (2 ^ n)
        (λ u _. ap p (xor_low u d x l ∙ ap (λ (v : ℕ). bit_xor u (x / 2) * 2 + v) s))
        ∙ rec (λ v. p (v * 2 + e))

    plain : (q : ℕ → Bool) → count (λ u. q (u * 2)) (2 ^ n) ≡ count (λ u. q (u * 2 + 0)) (2 ^ n)
    plain q = count_same (λ u. q (u * 2)) (λ u. q (u * 2 + 0)) (2 ^ n) (λ u _. ap q (omega arith))

    go : Rec → (x % 2 ≡ 0) ⊎ (x % 2 ≡ 1)
        → count (λ u. p (bit_xor (u * 2) x)) (2 ^ n) + count (λ u. p (bit_xor (u * 2 + 1) x)) (2 ^ n) ≡ count (λ u. p (u * 2)) (2 ^ n) + count (λ u. p (u * 2 + 1)) (2 ^ n)
    go rec (inl z) = omega (arith, plain (λ v. p (bit_xor v x)), plain p, moved rec 0 0 (omega arith) z, moved rec 1 1 (omega arith) (ap (bit_xor 1) z))
    go rec (inr o) = omega (arith, plain (λ v. p (bit_xor v x)), plain p, moved rec 0 1 (omega arith) o, moved rec 1 0 (omega arith) (ap (bit_xor 1) o))

-- ---- sums over classes

-- one number is in one class
sum_none : (x k : ℕ) → k ≤ x → sum_to (λ a. cond (eqb x a) 1 0) k ≡ 0
sum_none x zero h = refl
sum_none x (suc k) h = omega (arith, sum_none x k (omega arith), ap {B = ℕ} (λ (b : Bool). cond b 1 0) (ne_eqb x k (λ e. omega arith)))

pub sum_one : (x k : ℕ) → x < k → sum_to (λ a. cond (eqb x a) 1 0) k ≡ 1
sum_one x zero h = absurd (omega arith)
sum_one x (suc k) h = go (λ l. sum_one x k l) (cases_eq x k)
  where
    go : (x < k → sum_to (λ a. cond (eqb x a) 1 0) k ≡ 1) → (x ≡ k) ⊎ (x ≡ k → ⊥) → sum_to (λ a. cond (eqb x a) 1 0) (suc k) ≡ 1
    go rec (inl e) = omega (arith, sum_none x k (omega arith), ap {B = ℕ} (λ (b : Bool). cond b 1 0) (eq-eqb x k e))
    go rec (inr n) = omega (arith, rec (omega arith), ap {B = ℕ} (λ (b : Bool). cond b 1 0) (ne_eqb x k n))

-- the classes are all
sum_classes : (g : ℕ → ℕ) (k m : ℕ) → ((e : ℕ) → g e < k) → sum_to (λ a. count (λ e. eqb (g e) a) m) k ≡ m
sum_classes g k zero h = sum_zero (λ _. 0) k (λ _ _. refl)
sum_classes g k (suc m) h =
    sum_add (λ a. count (λ e. eqb (g e) a) m) (λ a. cond (eqb (g m) a) 1 0) k ∙ omega (arith, sum_classes g k m h, sum_one (g m) k (h m))

-- ---- the size of a class

-- whether an effect has the alias v
abbrev pub has_alias : List ℕ → ℕ → ℕ → Bool
has_alias cs v e = eqb (alias cs e) v

-- a class that has a member is as large as that of the mean
class_same : (cs : List ℕ) (e : ℕ) → e < 2 ^ length cs → count (has_alias cs (alias cs e)) (2 ^ length cs) ≡ count (has_alias cs 0) (2 ^ length cs)
class_same cs e h =
    sym (count_xor (length cs) (has_alias cs (alias cs e)) e h)
    ∙ count_same (λ u. has_alias cs (alias cs e) (bit_xor u e)) (has_alias cs 0) (2 ^ length cs) (λ u _. ap (λ (v : ℕ). eqb v (alias cs e)) (alias_xor cs u e) ∙ at (alias cs u) (alias cs e))
  where
    at : (a b : ℕ) → eqb (bit_xor a b) b ≡ eqb a 0
    at a b = go (cases_eq a 0)
      where
        go : (a ≡ 0) ⊎ (a ≡ 0 → ⊥) → eqb (bit_xor a b) b ≡ eqb a 0
        go (inl z) = eq-eqb (bit_xor a b) b (ap (λ (x : ℕ). bit_xor x b) z) ∙ sym (eq-eqb a 0 z)
        go (inr n) = ne_eqb (bit_xor a b) b (λ s. n (sym (cancel_r a b) ∙ ap (λ (x : ℕ). bit_xor x b) s ∙ xor_self b)) ∙ sym (ne_eqb a 0 n)

module _ (ws ts cs : List ℕ) (key : Sound ws ts cs) where
  -- an effect for each unit word
  get : (v : ℕ) → (e : ℕ) × (e < 2 ^ length cs) × (alias cs e ≡ v % 2 ^ total ws)
  get v = an_effect ws cs key.full (v % 2 ^ total ws) (mod-lt v (pow_pos (total ws)))

  -- so there are no more unit factors than factors
  pub units_le : total ws ≤ length cs
  units_le =
      exp_le (total ws) (length cs)
      (pigeon (2 ^ total ws) (2 ^ length cs) (λ v. (get v).0) (λ v h. (get v).1)
      (λ i j hi hj e. sym (mod-eq_of_lt hi) ∙ sym (get i).2 ∙ ap (alias cs) e ∙ (get j).2 ∙ mod-eq_of_lt hj))

  each : (v : ℕ) → v < 2 ^ total ws → count (has_alias cs v) (2 ^ length cs) ≡ count (has_alias cs 0) (2 ^ length cs)
  each v h =
      let x = an_effect ws cs key.full v h in
      subst (λ (c : ℕ). count (has_alias cs c) (2 ^ length cs) ≡ count (has_alias cs 0) (2 ^ length cs)) x.2 (class_same cs x.0 x.1)

  all : 2 ^ total ws * count (has_alias cs 0) (2 ^ length cs) ≡ 2 ^ length cs
  all =
      sym (sum_const (λ v. count (has_alias cs v) (2 ^ length cs)) (count (has_alias cs 0) (2 ^ length cs)) (2 ^ total ws) each)
      ∙ sum_classes (alias cs) (2 ^ total ws) (2 ^ length cs) (alias_word ws cs key.words)

  power : 2 ^ length cs ≡ 2 ^ total ws * 2 ^ (length cs - total ws)
  power = ap (λ (m : ℕ). 2 ^ m) (sym (sub-add_cancel units_le) ∙ add_comm (length cs - total ws) (total ws)) ∙ pow-add 2 (total ws) (length cs - total ws)

  -- each unit word is the alias of 2 ^ (n - k) effects
  pub class_size : (v : ℕ) → v < 2 ^ total ws → count (has_alias cs v) (2 ^ length cs) ≡ 2 ^ (length cs - total ws)
  class_size v h =
      each v h ∙ eq_of_mul-eq-mul_left (2 ^ total ws) (pow_pos (total ws)) (count (has_alias cs 0) (2 ^ length cs)) (2 ^ (length cs - total ws)) (all ∙ power)

-- ---- as lists

-- one more number
pub kept_more : (p : ℕ → Bool) (n : ℕ) → filter p (range_with_len 0 (n + 1)) ≡ filter p (range_with_len 0 n) ++ cond (p n) (n ∷ []) []
kept_more p n = ap (filter p) (sym (map-id (range_with_len 0 (n + 1)))) ∙ filter_of_map_range_with_len_more p (λ x. x) 0 n n (omega arith) ∙ ap (λ (xs : List ℕ). filter p xs ++ cond (p n) (n ∷ []) []) (map-id (range_with_len 0 n))

pub kept_yes : (p : ℕ → Bool) (n : ℕ) → p n ≡ true → filter p (range_with_len 0 (n + 1)) ≡ filter p (range_with_len 0 n) ++ n ∷ []
kept_yes p n e = kept_more p n ∙ ap (λ (b : Bool). filter p (range_with_len 0 n) ++ cond b (n ∷ []) []) e

pub kept_no : (p : ℕ → Bool) (n : ℕ) → p n ≡ false → filter p (range_with_len 0 (n + 1)) ≡ filter p (range_with_len 0 n)
kept_no p n e = kept_more p n ∙ ap (λ (b : Bool). filter p (range_with_len 0 n) ++ cond b (n ∷ []) []) e ∙ append-nil (filter p (range_with_len 0 n))

pub length_kept : (p : ℕ → Bool) (n : ℕ) → length (filter p (range_with_len 0 n)) ≡ count p n
length_kept p zero = refl
length_kept p (suc n) =
    ap (λ (m : ℕ). length (filter p (range_with_len 0 m))) (sym (add-one n)) ∙ ap length (kept_more p n)
    ∙ length-append (filter p (range_with_len 0 n)) (cond (p n) (n ∷ []) []) ∙ ap₂ (λ (x y : ℕ). x + y) (length_kept p n) (one (p n))
  where
    one : (b : Bool) → length (cond b (n ∷ []) []) ≡ cond b 1 0
    one true = refl
    one false = refl
