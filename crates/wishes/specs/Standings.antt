-- The wishes that stand, and how they change. Assumes nothing.
use Rattle.std.specs.Prelude.{◌≡◌, ℕ, if◌then◌else◌, List, [], ◌∷◌, length, Ok, Err, Result, nat_lt, refl}
use Rattle.few.specs.Few.{items}
use Rattle.theory.specs.declared.refusal.Refusal.{Refusal}
use Rattle.theory.specs.declared.refusal.Refusal.TheVariants.{WishForm, WishStands, WishesFull, WishAbsent}
use Rattle.theory.specs.declared.wish.Wish.{Wish}
use Rattle.theory.specs.declared.wish.Wish.TheVariants.{Least}
use Rattle.theory.specs.Wishes.{formed}
use Rattle.wishes.specs.declared.standing.Standing.{Standing}
use Rattle.wishes.specs.Lists.{stands}

-- the wishes that stand, in the order in which they came
abbrev pub wishes_in : Standing → List Wish
wishes_in standing = items standing.wishes

-- What adding a wish answers, where there are n factors and the wishes xs stand. Is it formed? Is it not standing yet? Do
-- fewer than twelve stand?
abbrev pub adding : ℕ → List Wish → Wish → Result Unit Refusal
adding n xs wish =
    if formed n wish then (if stands xs wish then Err WishStands else (if nat_lt (length xs) 12 then Ok tt else Err WishesFull)) else Err WishForm

-- What striking a wish answers. Does this very wish stand?
abbrev pub striking : List Wish → Wish → Result Unit Refusal
striking xs wish = if stands xs wish then Ok tt else Err WishAbsent

-- A granted call leaves the wishes xs and the shape as it was; a refused one leaves all as it was.
abbrev pub Changed : Result Unit Refusal → Standing → Standing → List Wish → Type 0
Changed (Ok _) old new xs = (new.shape ≡ old.shape) × (wishes_in new ≡ xs)
Changed (Err _) old new xs = new ≡ old

example_twice : adding 4 (Least 4 ∷ []) (Least 4) ≡ Err WishStands
example_twice = refl

example_absent : striking (Least 4 ∷ []) (Least 5) ≡ Err WishAbsent
example_absent = refl
