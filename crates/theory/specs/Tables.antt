-- How the tally is computed without going over all effects. Assumes nothing.
use Rattle.std.specs.Prelude.{◌≡◌, ℕ, suc, ◌+◌, ◌^◌, cond, List, [], ◌∷◌, ◌++◌, bit_xor}
use Rattle.theory.specs.Words.{total}
use Rattle.theory.specs.Keys.{Words}
use Rattle.theory.specs.Tallies.{sum_to, members, free, free_pairs}

-- With one column more, each effect is an old one, or an old one with the new factor: its length is one more, and its
-- alias the product with the new column.
abbrev pub ColumnFact : Type 0
ColumnFact =
    (cs : List ℕ) (c j v : ℕ)
    → (members (cs ++ c ∷ []) 0 v ≡ members cs 0 v)
    × (members (cs ++ c ∷ []) (suc j) v ≡ members cs (suc j) v + members cs j (bit_xor v c))

-- The interactions whose chain holds no main effect can be counted word by word.
abbrev pub WordsFact : Type 0
WordsFact =
    (ws cs : List ℕ) (l : ℕ) → Words ws cs
    → free_pairs ws cs l ≡ sum_to (λ v. cond (free ws cs l v) (members cs 2 v) 0) (2 ^ total ws)
