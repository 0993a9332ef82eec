-- Lists of wishes. Assumes nothing.
use Rattle.std.specs.Prelude.{◌≡◌, ℕ, Bool, true, false, not, ◌&&◌, List, [], ◌∷◌, filter, ◌==◌, refl}
use Rattle.std.specs.List.{list_any, list_all}
use Rattle.theory.specs.declared.wish.Wish.{Wish}
use Rattle.theory.specs.declared.wish.Wish.TheVariants.{Clear, Apart, Fine, Word, Least}
use Rattle.theory.specs.Wishes.{formed}

-- a wish is a kind with numbers e and f; f is 0 except for apart
abbrev pub kind_of : Wish → ℕ
kind_of (Clear e) = 1
kind_of (Apart e f) = 2
kind_of (Fine e) = 3
kind_of (Word e) = 4
kind_of (Least r) = 5

abbrev pub first_number : Wish → ℕ
first_number (Clear e) = e
first_number (Apart e f) = e
first_number (Fine e) = e
first_number (Word e) = e
first_number (Least r) = r

abbrev pub second_number : Wish → ℕ
second_number (Clear e) = 0
second_number (Apart e f) = f
second_number (Fine e) = 0
second_number (Word e) = 0
second_number (Least r) = 0

abbrev pub same_wish : Wish → Wish → Bool
same_wish x y = kind_of x == kind_of y && (first_number x == first_number y && second_number x == second_number y)

-- the list has the wish
abbrev pub stands : List Wish → Wish → Bool
stands xs wish = list_any (λ x. same_wish x wish) xs

-- each wish of the list is formed, where there are n factors
abbrev pub all_formed : ℕ → List Wish → Bool
all_formed n xs = list_all (formed n) xs

-- no wish is in the list twice
abbrev pub distinct : List Wish → Bool
distinct [] = true
distinct (x ∷ xs) = not (stands xs x) && distinct xs

-- the list without the wish, the others in their order
abbrev pub without : Wish → List Wish → List Wish
without wish xs = filter (λ x. not (same_wish x wish)) xs

example_stands : stands (Clear 3 ∷ Fine 5 ∷ []) (Fine 5) ≡ true
example_stands = refl

example_kind : stands (Clear 3 ∷ Fine 5 ∷ []) (Clear 5) ≡ false
example_kind = refl

example_without : without (Fine 5) (Clear 3 ∷ Fine 5 ∷ Least 4 ∷ []) ≡ Clear 3 ∷ Least 4 ∷ []
example_without = refl

example_twice : distinct (Clear 3 ∷ Fine 5 ∷ Clear 3 ∷ []) ≡ false
example_twice = refl
