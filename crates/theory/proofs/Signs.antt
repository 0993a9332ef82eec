-- The half-run law, over all runs and within a whole plot.
use Rattle.std.proofs.Common.{◌≡◌, ℕ, zero, suc, ◌+◌, ◌*◌, ◌/◌, ◌%◌, ◌^◌, ◌<◌, Bool, true, false, not, eqb, ◌⊎◌, sym, refl, ap, ◌∙◌, subst, ap₂, inl, inr, lt_of_le_of_lt, add-zero, mod-lt, mul_comm, eq-zero-or-pos, pow-suc, zero-mul, add-one, arith, lit<, pow_pos, shr_lt}
use mathlib.Core.Bool.{beq}
use native.Mathlib.Nat.{add-mod}
use Rattle.std.proofs.lemmas.Bool.{cases_eq}
use lib.Bits.{bit_and, and_block, and_zero_r, and_le_r}
use lib.Count.{ones, ones_cat}
use lib.Pow.{split}
use Rattle.theory.specs.Words.{evenly}
use Rattle.theory.specs.Tallies.{count}
use Rattle.theory.proofs.Counts.{count_same, count_both, count_twice}

-- the shared bits of the high and the low parts are counted apart
ones_parts : (j a t p : ℕ) → p < 2 ^ j → ones (bit_and a (t * 2 ^ j + p)) ≡ ones (bit_and (a / 2 ^ j) t) + ones (bit_and (a % 2 ^ j) p)
ones_parts j a t p h =
    ap (λ (x : ℕ). ones (bit_and x (t * 2 ^ j + p))) (sym (split a j))
    ∙ ap ones (and_block j (a / 2 ^ j) t (a % 2 ^ j) p (mod-lt a (pow_pos j)) h)
    ∙ ones_cat j (bit_and (a / 2 ^ j) t) (bit_and (a % 2 ^ j) p) (lt_of_le_of_lt (and_le_r (a % 2 ^ j) p) h)

digit : (x : ℕ) → (x % 2 ≡ 0) ⊎ (x % 2 ≡ 1)
digit x = cases (eq-zero-or-pos (x % 2))
  where
    cases : (x % 2 ≡ 0) ⊎ (0 < x % 2) → (x % 2 ≡ 0) ⊎ (x % 2 ≡ 1)
    cases (inl e) = inl e
    cases (inr l) = inr (omega arith)

-- a sum is even where both parts are, or neither
even_sum : (x y : ℕ) → eqb ((x + y) % 2) 0 ≡ beq (eqb (x % 2) 0) (eqb (y % 2) 0)
even_sum x y = ap (λ (n : ℕ). eqb n 0) (add-mod x y 2) ∙ at (x % 2) (y % 2) (digit x) (digit y)
  where
    at : (d e : ℕ) → (d ≡ 0) ⊎ (d ≡ 1) → (e ≡ 0) ⊎ (e ≡ 1) → eqb ((d + e) % 2) 0 ≡ beq (eqb d 0) (eqb e 0)
    at d e (inl a) (inl b) = rw (a, b)
    at d e (inl a) (inr b) = rw (a, b)
    at d e (inr a) (inl b) = rw (a, b)
    at d e (inr a) (inr b) = rw (a, b)

-- a word's sign is the product of the signs of its two parts
pub plus_parts : (j a t p : ℕ) → p < 2 ^ j → evenly a (t * 2 ^ j + p) ≡ beq (evenly (a / 2 ^ j) t) (evenly (a % 2 ^ j) p)
plus_parts j a t p h =
    ap (λ (n : ℕ). eqb (n % 2) 0) (ones_parts j a t p h) ∙ even_sum (ones (bit_and (a / 2 ^ j) t)) (ones (bit_and (a % 2 ^ j) p))

-- every word is evenly in run 0
plus_zero : (a : ℕ) → evenly a 0 ≡ true
unfolding ones
plus_zero a = ap (λ (n : ℕ). eqb (ones n % 2) 0) (and_zero_r a)

beq_true : (b : Bool) → beq b true ≡ b
beq_true true = refl
beq_true false = refl

beq_false : (b : Bool) → beq b false ≡ not b
beq_false true = refl
beq_false false = refl

-- runs by their lowest bit
plus_even : (a u : ℕ) → evenly a (u * 2) ≡ evenly (a / 2) u
plus_even a u =
    ap (evenly a) (sym (add-zero (u * 2))) ∙ plus_parts 1 a u 0 (lit< tt)
    ∙ ap (beq (evenly (a / 2) u)) (plus_zero (a % 2)) ∙ beq_true (evenly (a / 2) u)

plus_odd_0 : (a u : ℕ) → a % 2 ≡ 0 → evenly a (u * 2 + 1) ≡ evenly (a / 2) u
unfolding ones
plus_odd_0 a u e =
    plus_parts 1 a u 1 (lit< tt) ∙ ap (λ (d : ℕ). beq (evenly (a / 2) u) (evenly d 1)) e ∙ beq_true (evenly (a / 2) u)

plus_odd_1 : (a u : ℕ) → a % 2 ≡ 1 → evenly a (u * 2 + 1) ≡ not (evenly (a / 2) u)
unfolding ones
plus_odd_1 a u e =
    plus_parts 1 a u 1 (lit< tt) ∙ ap (λ (d : ℕ). beq (evenly (a / 2) u) (evenly d 1)) e ∙ beq_false (evenly (a / 2) u)

-- two words have the same sign in a run
abbrev alike : ℕ → ℕ → ℕ → Bool
alike a b u = beq (evenly a u) (evenly b u)

alike_even : (a b u : ℕ) → alike a b (u * 2) ≡ alike (a / 2) (b / 2) u
alike_even a b u = ap₂ beq (plus_even a u) (plus_even b u)

not_both : (x y : Bool) → beq (not x) (not y) ≡ beq x y
not_both true true = refl
not_both true false = refl
not_both false true = refl
not_both false false = refl

not_left : (x y : Bool) → beq (not x) y ≡ not (beq x y)
not_left true true = refl
not_left true false = refl
not_left false true = refl
not_left false false = refl

not_right : (x y : Bool) → beq x (not y) ≡ not (beq x y)
not_right true true = refl
not_right true false = refl
not_right false true = refl
not_right false false = refl

-- the lowest bits are equal: odd runs are as even ones. They differ: one of the two is alike
alike_odd : (a b u : ℕ) → a % 2 ≡ b % 2 → alike a b (u * 2 + 1) ≡ alike (a / 2) (b / 2) u
alike_odd a b u s = go (digit a)
  where
    go : (a % 2 ≡ 0) ⊎ (a % 2 ≡ 1) → alike a b (u * 2 + 1) ≡ alike (a / 2) (b / 2) u
    go (inl e) = ap₂ beq (plus_odd_0 a u e) (plus_odd_0 b u (sym s ∙ e))
    go (inr e) = ap₂ beq (plus_odd_1 a u e) (plus_odd_1 b u (sym s ∙ e)) ∙ not_both (evenly (a / 2) u) (evenly (b / 2) u)

alike_odd_not : (a b u : ℕ) → (a % 2 ≡ b % 2 → ⊥) → alike a b (u * 2 + 1) ≡ not (alike (a / 2) (b / 2) u)
alike_odd_not a b u n = go (digit a) (digit b)
  where
    go : (a % 2 ≡ 0) ⊎ (a % 2 ≡ 1) → (b % 2 ≡ 0) ⊎ (b % 2 ≡ 1) → alike a b (u * 2 + 1) ≡ not (alike (a / 2) (b / 2) u)
    go (inl e) (inl f) = absurd (n (e ∙ sym f))
    go (inl e) (inr f) = ap₂ beq (plus_odd_0 a u e) (plus_odd_1 b u f) ∙ not_right (evenly (a / 2) u) (evenly (b / 2) u)
    go (inr e) (inl f) = ap₂ beq (plus_odd_1 a u e) (plus_odd_0 b u f) ∙ not_left (evenly (a / 2) u) (evenly (b / 2) u)
    go (inr e) (inr f) = absurd (n (e ∙ sym f))

-- two different words have the same sign in exactly half the runs
pub half_alike : (k a b : ℕ) → a < 2 ^ k → b < 2 ^ k → (a ≡ b → ⊥) → 2 * count (alike a b) (2 ^ k) ≡ 2 ^ k
half_alike zero a b ha hb n = absurd (n (omega arith))
half_alike (suc k) a b ha hb n =
    go (half_alike k (a / 2) (b / 2) (shr_lt k 1 (subst (λ (x : ℕ). a < 2 ^ x) (sym (add-one k)) ha)) (shr_lt k 1 (subst (λ (x : ℕ). b < 2 ^ x) (sym (add-one k)) hb)))
    (cases_eq (a % 2) (b % 2))
  where
    evens : count (λ u. alike a b (u * 2)) (2 ^ k) ≡ count (alike (a / 2) (b / 2)) (2 ^ k)
    evens = count_same (λ u. alike a b (u * 2)) (alike (a / 2) (b / 2)) (2 ^ k) (λ u _. alike_even a b u)

    parts : count (alike a b) (2 ^ suc k) ≡ count (λ u. alike a b (u * 2)) (2 ^ k) + count (λ u. alike a b (u * 2 + 1)) (2 ^ k)
    parts = ap (count (alike a b)) (pow-suc 2 k) ∙ count_twice (alike a b) (2 ^ k)

    go : ((a / 2 ≡ b / 2 → ⊥) → 2 * count (alike (a / 2) (b / 2)) (2 ^ k) ≡ 2 ^ k)
        → (a % 2 ≡ b % 2) ⊎ (a % 2 ≡ b % 2 → ⊥) → 2 * count (alike a b) (2 ^ suc k) ≡ 2 ^ suc k
    go rec (inl s) =
        let odds : count (λ u. alike a b (u * 2 + 1)) (2 ^ k) ≡ count (alike (a / 2) (b / 2)) (2 ^ k) =
        count_same (λ u. alike a b (u * 2 + 1)) (alike (a / 2) (b / 2)) (2 ^ k) (λ u _. alike_odd a b u s) in
        let ih = rec (λ h. n (omega arith)) in
        omega (arith, pow-suc 2 k, parts, evens)
    go rec (inr d) =
        let odds : count (λ u. alike a b (u * 2 + 1)) (2 ^ k) ≡ count (λ u. not (alike (a / 2) (b / 2) u)) (2 ^ k) =
        count_same (λ u. alike a b (u * 2 + 1)) (λ u. not (alike (a / 2) (b / 2) u)) (2 ^ k) (λ u _. alike_odd_not a b u d) in
        omega (arith, pow-suc 2 k, parts, evens, count_both (alike (a / 2) (b / 2)) (2 ^ k))

-- a word other than 0 is evenly in exactly half the runs, and minus in the other half
pub half_evenly : (k a : ℕ) → a < 2 ^ k → (a ≡ 0 → ⊥) → 2 * count (evenly a) (2 ^ k) ≡ 2 ^ k
unfolding ones
half_evenly k a h n =
    ap (λ (x : ℕ). 2 * x) (count_same (evenly a) (alike a 0) (2 ^ k) (λ u _. sym (beq_true (evenly a u)))) ∙ half_alike k a 0 h (pow_pos k) n

-- two words that are alike in all runs are equal
pub alike_all : (k a b : ℕ) → a < 2 ^ k → b < 2 ^ k → ((u : ℕ) → u < 2 ^ k → evenly a u ≡ evenly b u) → a ≡ b
alike_all k a b ha hb same = go (cases_eq a b)
  where
    self : (x : Bool) → beq x x ≡ true
    self true = refl
    self false = refl

    all : (n : ℕ) → count (λ _. true) n ≡ n
    all zero = refl
    all (suc n) = omega (arith, all n)

    full : count (alike a b) (2 ^ k) ≡ 2 ^ k
    full = count_same (alike a b) (λ _. true) (2 ^ k) (λ u l. ap (λ (x : Bool). beq x (evenly b u)) (same u l) ∙ self (evenly b u)) ∙ all (2 ^ k)

    go : (a ≡ b) ⊎ (a ≡ b → ⊥) → a ≡ b
    go (inl e) = e
    go (inr n) = absurd (omega (arith, half_alike k a b ha hb n, full, pow_pos k))

-- ---- within whole plot p

-- a word without S bits has one sign
pub plot_one : (w a p t : ℕ) → p < 2 ^ w → a / 2 ^ w ≡ 0 → evenly a (p + 2 ^ w * t) ≡ evenly a p
unfolding ones
plot_one w a p t h z =
    ap (evenly a) (omega (arith, mul_comm (2 ^ w) t)) ∙ plus_parts w a t p h
    ∙ ap (λ (x : ℕ). beq (evenly x t) (evenly (a % 2 ^ w) p)) z
    ∙ sym (ap (evenly a) (omega (arith, zero-mul (2 ^ w))) ∙ plus_parts w a 0 p h ∙ ap (λ (b : Bool). beq b (evenly (a % 2 ^ w) p)) (plus_zero (a / 2 ^ w)))

-- a word with an S bit has each sign in half of the plot's runs
pub plot_half : (w s a p : ℕ) → p < 2 ^ w → a < 2 ^ (s + w) → (a / 2 ^ w ≡ 0 → ⊥) → 2 * count (λ t. evenly a (p + 2 ^ w * t)) (2 ^ s) ≡ 2 ^ s
plot_half w s a p h l n = go (evenly (a % 2 ^ w) p) refl
  where
    half : 2 * count (evenly (a / 2 ^ w)) (2 ^ s) ≡ 2 ^ s
    half = half_evenly s (a / 2 ^ w) (shr_lt s w l) n

    at : (t : ℕ) → evenly a (p + 2 ^ w * t) ≡ beq (evenly (a / 2 ^ w) t) (evenly (a % 2 ^ w) p)
    at t = ap (evenly a) (omega (arith, mul_comm (2 ^ w) t)) ∙ plus_parts w a t p h

    go : (b : Bool) → evenly (a % 2 ^ w) p ≡ b → 2 * count (λ t. evenly a (p + 2 ^ w * t)) (2 ^ s) ≡ 2 ^ s
    go true e =
        omega (arith, half, count_same (λ t. evenly a (p + 2 ^ w * t)) (evenly (a / 2 ^ w)) (2 ^ s) (λ t _. at t ∙ ap (beq (evenly (a / 2 ^ w) t)) e ∙ beq_true (evenly (a / 2 ^ w) t)))
    go false e =
        omega (arith, half, count_both (evenly (a / 2 ^ w)) (2 ^ s), count_same (λ t. evenly a (p + 2 ^ w * t)) (λ t. not (evenly (a / 2 ^ w) t)) (2 ^ s) (λ t _. at t ∙ ap (beq (evenly (a / 2 ^ w) t)) e ∙ beq_false (evenly (a / 2 ^ w) t)))
