-- Sums over the numbers below a bound.
use Rattle.std.proofs.Common.{◌≡◌, ℕ, zero, suc, ◌+◌, ◌*◌, ◌<◌, ◌≤◌, Bool, true, false, cond, ◌&&◌, eqb, ◌⊎◌, sym, refl, ap, ◌∙◌, ap₂, inl, inr, suc-mul, eq-or-lt_of_le, one-mul, mul-zero, zero-mul, mul-one, mul-add, arith}
use Rattle.std.proofs.lemmas.Bool.{cases_eq, eq-eqb, ne_eqb}
use Rattle.theory.specs.Tallies.{count, sum_to}

pub sum_below : (f g : ℕ → ℕ) (n : ℕ) → ((u : ℕ) → u < n → f u ≡ g u) → sum_to f n ≡ sum_to g n
sum_below f g zero h = refl
sum_below f g (suc n) h = ap₂ (λ (x y : ℕ). x + y) (sum_below f g n (λ u l. h u (omega arith))) (h n (omega arith))

pub sum_add : (f g : ℕ → ℕ) (k : ℕ) → sum_to (λ a. f a + g a) k ≡ sum_to f k + sum_to g k
sum_add f g zero = refl
sum_add f g (suc k) = omega (arith, sum_add f g k)

pub sum_zero : (f : ℕ → ℕ) (k : ℕ) → ((u : ℕ) → u < k → f u ≡ 0) → sum_to f k ≡ 0
sum_zero f zero h = refl
sum_zero f (suc k) h = omega (arith, sum_zero f k (λ u l. h u (omega arith)), h k (omega arith))

pub sum_const : (f : ℕ → ℕ) (c k : ℕ) → ((a : ℕ) → a < k → f a ≡ c) → sum_to f k ≡ k * c
sum_const f c zero h = sym (zero-mul c)
sum_const f c (suc k) h = omega (arith, sum_const f c k (λ a l. h a (omega arith)), h k (omega arith), suc-mul k c)

pub sum_mono : (f : ℕ → ℕ) (i j : ℕ) → i ≤ j → sum_to f i ≤ sum_to f j
sum_mono f i zero h = omega (arith, ap (sum_to f) z)
  where
    z : i ≡ 0
    z = omega arith
sum_mono f i (suc j) h = go (λ l. sum_mono f i j l) (eq-or-lt_of_le h)
  where
    go : (i ≤ j → sum_to f i ≤ sum_to f j) → (i ≡ suc j) ⊎ (i < suc j) → sum_to f i ≤ sum_to f (suc j)
    go rec (inl e) = omega (arith, ap (sum_to f) e)
    go rec (inr l) = omega (arith, rec (omega arith))

pub sum_le : (f g : ℕ → ℕ) (n : ℕ) → ((u : ℕ) → f u ≤ g u) → sum_to f n ≤ sum_to g n
sum_le f g zero h = omega arith
sum_le f g (suc n) h = omega (arith, sum_le f g n h, h n)

-- one term is no more than the sum
pub term_le : (f : ℕ → ℕ) (u n : ℕ) → u < n → f u ≤ sum_to f n
term_le f u n h = let k = sum_mono f (suc u) n h in omega arith

-- g is f from a up to b, and 0 elsewhere below k
pub sum_window : (f g : ℕ → ℕ) (a b k : ℕ) → a ≤ b → b ≤ k → ((v : ℕ) → v < a → g v ≡ 0) → ((v : ℕ) → a ≤ v → v < b → g v ≡ f v) → ((v : ℕ) → b ≤ v → v < k → g v ≡ 0)
    → sum_to f a + sum_to g k ≡ sum_to f b
sum_window f g a b zero l m low mid high = omega (arith, ap (sum_to f) za, ap (sum_to f) zb)
  where
    za : a ≡ 0
    za = omega arith

    zb : b ≡ 0
    zb = omega arith
sum_window f g a b (suc k) l m low mid high = go (λ a' b'. sum_window f g a' b' k) (eq-or-lt_of_le m) (eq-or-lt_of_le l)
  where
    Rec : ℕ → ℕ → Type 0
    Rec a' b' = a' ≤ b' → b' ≤ k → ((v : ℕ) → v < a' → g v ≡ 0) → ((v : ℕ) → a' ≤ v → v < b' → g v ≡ f v) → ((v : ℕ) → b' ≤ v → v < k → g v ≡ 0) → sum_to f a' + sum_to g k ≡ sum_to f b'

    go : ((a' b' : ℕ) → Rec a' b') → (b ≡ suc k) ⊎ (b < suc k) → (a ≡ b) ⊎ (a < b) → sum_to f a + sum_to g (suc k) ≡ sum_to f b
    go rec (inr below) _ = omega (arith, rec a b l (omega arith) low mid (λ v p q. high v p (omega arith)), high k (omega arith) (omega arith))
    go rec (inl e) (inl e') = omega (arith, sum_zero g (suc k) (λ v p. low v (omega arith)), ap (sum_to f) e')
    go rec (inl e) (inr below) =
        omega (arith, rec a k (omega arith) (omega arith) low (λ v p q. mid v p (omega arith)) (λ v p q. absurd (omega arith)), mid k (omega arith) (omega arith), ap (sum_to f) e)

-- a sum with one place that counts
pick : (g : ℕ → ℕ) (x k : ℕ) → x < k → sum_to (λ v. g v * cond (eqb x v) 1 0) k ≡ g x
pick g x zero h = absurd (omega arith)
pick g x (suc k) h = go (λ l. pick g x k l) (cases_eq x k)
  where
    off : (v : ℕ) → (x ≡ v → ⊥) → g v * cond (eqb x v) 1 0 ≡ 0
    off v n = ap (λ (b : Bool). g v * cond b 1 0) (ne_eqb x v n) ∙ mul-zero (g v)

    on : (v : ℕ) → x ≡ v → g v * cond (eqb x v) 1 0 ≡ g x
    on v e = ap (λ (b : Bool). g v * cond b 1 0) (eq-eqb x v e) ∙ mul-one (g v) ∙ ap g (sym e)

    go : (x < k → sum_to (λ v. g v * cond (eqb x v) 1 0) k ≡ g x) → (x ≡ k) ⊎ (x ≡ k → ⊥) → sum_to (λ v. g v * cond (eqb x v) 1 0) (suc k) ≡ g x
    go rec (inl e) = omega (arith, sum_zero (λ v. g v * cond (eqb x v) 1 0) k (λ v l. off v (λ z. omega arith)), on k e)
    go rec (inr n) = omega (arith, rec (omega arith), off k n)

-- A sum over words of a weight times how many pass with that word is a sum of weights over those that pass.
pub by_effects : (g : ℕ → ℕ) (p : ℕ → Bool) (a : ℕ → ℕ) (k n : ℕ) → ((e : ℕ) → a e < k)
    → sum_to (λ v. g v * count (λ e. p e && eqb (a e) v) n) k ≡ sum_to (λ e. cond (p e) (g (a e)) 0) n
by_effects g p a k zero h = sum_zero (λ v. g v * 0) k (λ v l. mul-zero (g v))
by_effects g p a k (suc n) h =
    sum_below (λ v. g v * (count (λ e. p e && eqb (a e) v) n + cond (p n && eqb (a n) v) 1 0)) (λ v. g v * count (λ e. p e && eqb (a e) v) n + g v * cond (p n && eqb (a n) v) 1 0) k
    (λ v l. mul-add (g v) (count (λ e. p e && eqb (a e) v) n) (cond (p n && eqb (a n) v) 1 0))
    ∙ sum_add (λ v. g v * count (λ e. p e && eqb (a e) v) n) (λ v. g v * cond (p n && eqb (a n) v) 1 0) k
    ∙ ap₂ (λ (x y : ℕ). x + y) (by_effects g p a k n h) (last (p n))
  where
    last : (b : Bool) → sum_to (λ v. g v * cond (b && eqb (a n) v) 1 0) k ≡ cond b (g (a n)) 0
    last true = pick g (a n) k (h n)
    last false = sum_zero (λ v. g v * 0) k (λ v l. mul-zero (g v))

-- a count is a sum of ones
pub count_sum : (p q : ℕ → Bool) (n : ℕ) → sum_to (λ e. cond (p e) (cond (q e) 1 0) 0) n ≡ count (λ e. p e && q e) n
count_sum p q zero = refl
count_sum p q (suc n) = ap₂ (λ (x y : ℕ). x + y) (count_sum p q n) (one (p n) (q n))
  where
    one : (b c : Bool) → ◌≡◌ {A = ℕ} (cond b (cond c 1 0) 0) (cond (b && c) 1 0)
    one true c = refl
    one false c = refl

-- how many pass of those whose word is free, counted word by word
pub by_words : (free p : ℕ → Bool) (a : ℕ → ℕ) (k n : ℕ) → ((e : ℕ) → a e < k)
    → sum_to (λ v. cond (free v) (count (λ e. p e && eqb (a e) v) n) 0) k ≡ count (λ e. p e && free (a e)) n
by_words free p a k n h =
    sum_below (λ v. cond (free v) (count (λ e. p e && eqb (a e) v) n) 0) (λ v. cond (free v) 1 0 * count (λ e. p e && eqb (a e) v) n) k
    (λ v l. times (free v) (count (λ e. p e && eqb (a e) v) n))
    ∙ by_effects (λ v. cond (free v) 1 0) p a k n h ∙ count_sum p (λ e. free (a e)) n
  where
    times : (b : Bool) (m : ℕ) → cond b m 0 ≡ cond b 1 0 * m
    times true m = sym (one-mul m)
    times false m = sym (zero-mul m)

pub count_ones : (p : ℕ → Bool) (n : ℕ) → sum_to (λ e. cond (p e) 1 0) n ≡ count p n
count_ones p zero = refl
count_ones p (suc n) = ap (λ (x : ℕ). x + cond (p n) 1 0) (count_ones p n)
