-- What a number's bytes are read as. Assumes nothing.
use Rattle.std.specs.Prelude.{◌≡◌, ℕ, ◌+◌, ◌-◌, ◌*◌, ◌<◌, Bool, cond, not, ◌&&◌, List, [], ◌∷◌, length, Some, None, codes, decimal, Option, ◌==◌, nat_le, nat_lt, slice_index, refl}

-- whether a byte is a digit
abbrev pub is_digit : ℕ → Bool
is_digit c = nat_le 48 c && nat_le c 57

-- the number n with the digits cs after it, in base ten
abbrev pub digits_on : ℕ → List ℕ → Option ℕ
digits_on n [] = Some n
digits_on n (c ∷ cs) = cond (is_digit c) (digits_on (n * 10 + (c - 48)) cs) None

-- one to four bytes, the first of them no needless zero
abbrev pub well_sized : List ℕ → Bool
well_sized bs = nat_lt 0 (length bs) && (nat_le (length bs) 4 && not (slice_index bs 0 == 48 && nat_lt 1 (length bs)))

-- the number that the bytes write: one to four digits, the first of them no needless zero
abbrev pub number_of : List ℕ → Option ℕ
number_of bs = cond (well_sized bs) (digits_on 0 bs) None

-- a number that was printed in base ten is read back as itself, where it has four digits at most
abbrev pub NumbersStand : Type 0
NumbersStand = (n : ℕ) → n < 10000 → number_of (decimal n) ≡ Some n

example_number : number_of (codes "120") ≡ Some 120
example_number = refl

example_zero : number_of (codes "012") ≡ None
example_zero = refl

example_sign : number_of (codes "+3") ≡ None
example_sign = refl
