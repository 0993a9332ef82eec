-- Chains and defining words. Assumes nothing.
use Rattle.std.specs.Prelude.{◌≡◌, ℕ, ◌^◌, List, [], ◌∷◌, length, filter, nat_eq, refl}
use Rattle.std.specs.List.{range_with_len}
use Rattle.theory.specs.Words.{alias}

-- the effects with the alias v, in rising number: `counting 0 m` is 0, 1, .., m - 1
abbrev pub with_alias : List ℕ → ℕ → List ℕ
with_alias cs v = filter (λ e. nat_eq (alias cs e) v) (range_with_len 0 (2 ^ length cs))

-- the chain of the effect e: every effect with its alias, in rising number
abbrev pub chain : List ℕ → ℕ → List ℕ
chain cs e = with_alias cs (alias cs e)

-- the chain of the mean is 0 and the one defining word Apq, number 7; A is in a chain with pq, number 6
example_mean : chain (1 ∷ 4 ∷ 5 ∷ 6 ∷ []) 0 ≡ 0 ∷ 7 ∷ []
example_mean = refl

example_main : chain (1 ∷ 4 ∷ 5 ∷ 6 ∷ []) 1 ≡ 1 ∷ 6 ∷ []
example_main = refl
