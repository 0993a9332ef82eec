-- Dictionary order of keys. Assumes nothing.
use Rattle.std.specs.Prelude.{◌≡◌, ℕ, ◌<◌, ◌⊎◌, List, [], ◌∷◌, refl}
use Rattle.std.proofs.Common.{inl, inr, le_refl}

-- cs comes before ds in dictionary order: at the first factor where they differ it has the smaller word
abbrev pub Before : List ℕ → List ℕ → Type 0
Before [] ds = ⊥
Before (c ∷ cs) [] = ⊥
Before (c ∷ cs) (d ∷ ds) = (c < d) ⊎ ((c ≡ d) × Before cs ds)

-- at the third factor, where they differ, the first key has the smaller word
example_before : Before (1 ∷ 4 ∷ 5 ∷ 6 ∷ []) (1 ∷ 4 ∷ 6 ∷ 5 ∷ [])
example_before = inr (refl, inr (refl, inl (le_refl 6)))
