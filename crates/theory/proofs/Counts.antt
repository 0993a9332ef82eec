-- Counting the numbers below a bound that pass a test.
use Rattle.std.proofs.Common.{◌≡◌, ℕ, zero, suc, ◌+◌, ◌*◌, ◌<◌, ◌≤◌, Bool, true, false, cond, not, ◌⊎◌, sym, refl, ap, ◌∙◌, ap₂, inl, inr, add-zero, add-suc, eq-or-lt_of_le, arith}
use Rattle.theory.specs.Tallies.{count}

pub count_same : (p q : ℕ → Bool) (n : ℕ) → ((u : ℕ) → u < n → p u ≡ q u) → count p n ≡ count q n
count_same p q zero h = refl
count_same p q (suc n) h = ap₂ (λ (x : ℕ) (b : Bool). x + cond b 1 0) (count_same p q n (λ u l. h u (omega arith))) (h n (omega arith))

one_way : (b : Bool) → cond b 1 0 + cond (not b) 1 0 ≡ 1
one_way true = refl
one_way false = refl

-- what passes and what fails is all
pub count_both : (p : ℕ → Bool) (n : ℕ) → count p n + count (λ u. not (p u)) n ≡ n
count_both p zero = refl
count_both p (suc n) = omega (arith, count_both p n, one_way (p n))

-- even and odd numbers apart
pub count_twice : (p : ℕ → Bool) (m : ℕ) → count p (m * 2) ≡ count (λ u. p (u * 2)) m + count (λ u. p (u * 2 + 1)) m
count_twice p zero = refl
count_twice p (suc m) =
    let e : suc m * 2 ≡ suc (suc (m * 2)) = omega arith in
    let o : suc (m * 2) ≡ m * 2 + 1 = omega arith in
    ap (count p) e ∙ omega (arith, count_twice p m, ap {B = ℕ} (λ (u : ℕ). cond (p u) 1 0) o)

-- a test with one answer passes all or none
pub count_one : (b : Bool) (n : ℕ) → count (λ _. b) n ≡ cond b n 0
count_one true zero = refl
count_one true (suc n) = omega (arith, count_one true n)
count_one false zero = refl
count_one false (suc n) = omega (arith, count_one false n)

pub count_mono : (p : ℕ → Bool) (i j : ℕ) → i ≤ j → count p i ≤ count p j
count_mono p i zero h = omega (arith, ap (count p) z)
  where
    z : i ≡ 0
    z = omega arith
count_mono p i (suc j) h = go (λ l. count_mono p i j l) (eq-or-lt_of_le h)
  where
    go : (i ≤ j → count p i ≤ count p j) → (i ≡ suc j) ⊎ (i < suc j) → count p i ≤ count p (suc j)
    go rec (inl e) = omega (arith, ap (count p) e)
    go rec (inr l) = omega (arith, rec (omega arith))

-- first the numbers below m, then n more
pub count_add : (p : ℕ → Bool) (m n : ℕ) → count p (m + n) ≡ count p m + count (λ u. p (m + u)) n
count_add p m zero = ap (count p) (add-zero m) ∙ sym (add-zero (count p m))
count_add p m (suc n) = ap (count p) (add-suc m n) ∙ omega (arith, count_add p m n)

pub count_le : (p : ℕ → Bool) (n : ℕ) → count p n ≤ n
count_le p n = omega (arith, count_both p n)
