-- What the first columns of a key say of a wish. Assumes nothing.
use Rattle.std.specs.Prelude.{◌≡◌, ℕ, List, [], ◌∷◌, length, take, All, Any, refl}
use Rattle.theory.specs.declared.wish.Wish.{Wish}
use Rattle.theory.specs.declared.wish.Wish.TheVariants.{Word}
use Rattle.theory.specs.Wishes.{Formed, Meets}

-- the wish is one of the factors of these columns, and the columns do not meet it
abbrev pub Fails : List ℕ → List ℕ → Wish → Type 0
Fails ws cs wish = Formed (length cs) wish × (Meets ws cs wish → ⊥)

-- the columns meet the wish, if it is one of their factors
abbrev pub Passes : List ℕ → List ℕ → Wish → Type 0
Passes ws cs wish = Formed (length cs) wish → Meets ws cs wish

-- no key that begins with the columns cs meets the wish
abbrev pub MetByNone : List ℕ → List ℕ → Wish → Type 0
MetByNone ws cs wish = (ds : List ℕ) → take (length cs) ds ≡ cs → Meets ws ds wish → ⊥

-- the same for a list of wishes: some wish fails, and then no key that begins so meets all
abbrev pub SomeFails : List ℕ → List ℕ → List Wish → Type 0
SomeFails ws cs wishes = Any (Fails ws cs) wishes

abbrev pub AllMetByNone : List ℕ → List ℕ → List Wish → Type 0
AllMetByNone ws cs wishes = (ds : List ℕ) → take (length cs) ds ≡ cs → All (Meets ws ds) wishes → ⊥

-- the first three columns of (1, 4, 5, 6) meet the wish for the word Apq, since its alias is 0
example_passes : Passes (2 ∷ 1 ∷ []) (1 ∷ 4 ∷ 5 ∷ []) (Word 7)
example_passes formed = refl
