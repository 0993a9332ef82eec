-- The tally of a key, and its resolution. Assumes nothing.
use Rattle.std.specs.Prelude.{◌≡◌, ℕ, zero, suc, ◌+◌, ◌*◌, ◌^◌, Bool, cond, ◌&&◌, List, [], ◌∷◌, length, Some, None, Option, ◌==◌, refl}
use Rattle.std.specs.Int.Count.{ones, ones_in}
use Rattle.theory.specs.declared.tally.Tally.{Tally}
use Rattle.theory.specs.Words.{total, alias, stratum}

-- how many numbers below n pass
abbrev pub count : (ℕ → Bool) → ℕ → ℕ
count p zero = zero
count p (suc n) = count p n + cond (p n) 1 0

-- the sum of f over the numbers below n
abbrev pub sum_to : (ℕ → ℕ) → ℕ → ℕ
sum_to f zero = zero
sum_to f (suc n) = sum_to f n + f n

-- how many effects of length j have the alias v; the length of an effect is its number of one bits
abbrev pub members : List ℕ → ℕ → ℕ → ℕ
members cs j v = count (λ e. (ones e == j) && alias cs e == v) (2 ^ length cs)

-- the chain with the alias v is of stratum l and holds no main effect
abbrev pub free : List ℕ → List ℕ → ℕ → ℕ → Bool
free ws cs l v = stratum ws v == l && members cs 1 v == 0

-- A_j: the defining words of length j, which is at least 1
abbrev pub word_count : List ℕ → ℕ → ℕ
word_count cs j = members cs j 0

-- M_l: the interactions of stratum l whose chain holds no main effect
abbrev pub free_pairs : List ℕ → List ℕ → ℕ → ℕ
free_pairs ws cs l = count (λ e. (ones e == 2) && free ws cs l (alias cs e)) (2 ^ length cs)

-- Q_l: over the chains of those, the sum of the squares of how many interactions a chain holds
abbrev pub free_squares : List ℕ → List ℕ → ℕ → ℕ
free_squares ws cs l = sum_to (λ v. cond (free ws cs l v) (members cs 2 v * members cs 2 v) 0) (2 ^ total ws)

unfoldable pub tally : List ℕ → List ℕ → Tally
tally ws cs = record {
  a3 = word_count cs 3;
  a4 = word_count cs 4;
  a5 = word_count cs 5;
  a6 = word_count cs 6;
  a7 = word_count cs 7;
  a8 = word_count cs 8;
  a9 = word_count cs 9;
  a10 = word_count cs 10;
  m1 = free_pairs ws cs 1;
  m2 = free_pairs ws cs 2;
  q1 = free_squares ws cs 1;
  q2 = free_squares ws cs 2;
}

-- the first of m lengths, from j on, that some defining word has
abbrev pub first_length : List ℕ → ℕ → ℕ → Option ℕ
first_length cs j zero = None
first_length cs j (suc m) = cond (word_count cs j == 0) (first_length cs (suc j) m) (Some j)

-- the least length of a defining word
abbrev pub resolution : List ℕ → Option ℕ
resolution cs = first_length cs 1 (length cs)

example_tally : tally (2 ∷ 1 ∷ []) (1 ∷ 4 ∷ 5 ∷ 6 ∷ []) ≡ record { a3 = 1; a4 = 0; a5 = 0; a6 = 0; a7 = 0; a8 = 0; a9 = 0; a10 = 0; m1 = 2; m2 = 1; q1 = 2; q2 = 1 }
unfolding tally ones ones_in
example_tally = refl

example_resolution : resolution (1 ∷ 4 ∷ 5 ∷ 6 ∷ []) ≡ Some 3
unfolding ones ones_in
example_resolution = refl

example_none : resolution (1 ∷ 2 ∷ []) ≡ None
unfolding ones ones_in
example_none = refl
