-- Wishes by kind and numbers. Assumes nothing.
use Rattle.std.specs.Prelude.{◌≡◌, ℕ, Bool, if◌then◌else◌, ◌&&◌, ◌||◌, Some, None, Ok, Err, Option, Result, ◌==◌, refl}
use Rattle.std.specs.Int.Count.{ones, ones_in}
use Rattle.theory.specs.declared.refusal.Refusal.{Refusal}
use Rattle.theory.specs.declared.refusal.Refusal.TheVariants.{WishKind, WishForm}
use Rattle.theory.specs.declared.wish.Wish.{Wish}
use Rattle.theory.specs.declared.wish.Wish.TheVariants.{Clear, Apart, Fine, Word, Least}
use Rattle.theory.specs.Wishes.{formed}
use Rattle.wishes.specs.declared.forming.Kind.{Kind}
use Rattle.wishes.specs.declared.forming.Kind.TheVariants as kinds

-- the kind with this number, or a refusal where there is no such kind
abbrev pub naming : ℕ → Result Kind Refusal
naming number =
    if number == 1 then Ok kinds.Clear
    else (if number == 2 then Ok kinds.Apart
    else (if number == 3 then Ok kinds.Fine
    else (if number == 4 then Ok kinds.Word
    else (if number == 5 then Ok kinds.Least
    else Err WishKind))))

-- the wish of a kind with the numbers e and f; none where there is no such kind
abbrev pub wish_of : ℕ → ℕ → ℕ → Option Wish
wish_of kind e f =
    if kind == 1 then Some (Clear e)
    else (if kind == 2 then Some (Apart e f)
    else (if kind == 3 then Some (Fine e)
    else (if kind == 4 then Some (Word e)
    else (if kind == 5 then Some (Least e)
    else None))))

-- f is 0 except for apart
abbrev pub second_fits : ℕ → ℕ → Bool
second_fits kind f = kind == 2 || f == 0

-- What three numbers name: a wish, or which of the two checks says 'no' first. Is the kind known? Is there a second number
-- for apart alone?
abbrev pub named : Bool → Option Wish → Result Wish Refusal
named fits None = Err WishKind
named fits (Some wish) = if fits then Ok wish else Err WishForm

abbrev pub wishing : ℕ → ℕ → ℕ → Result Wish Refusal
wishing kind e f = named (second_fits kind f) (wish_of kind e f)

-- What forming a wish of n factors answers: the wish, or which of the two checks says 'no' first. Is the kind known? Are
-- the numbers as it asks?
abbrev pub checked : ℕ → Bool → Option Wish → Result Wish Refusal
checked n fits None = Err WishKind
checked n fits (Some wish) = if fits && formed n wish then Ok wish else Err WishForm

abbrev pub forming : ℕ → ℕ → ℕ → ℕ → Result Wish Refusal
forming n kind e f = checked n (second_fits kind f) (wish_of kind e f)

-- with four factors: clear pq, clear with a second number, clear Apq, an unknown kind
example_clear : forming 4 1 6 0 ≡ Ok (Clear 6)
unfolding ones ones_in
example_clear = refl

example_second : forming 4 1 6 1 ≡ Err WishForm
example_second = refl

example_long : forming 4 1 7 0 ≡ Err WishForm
unfolding ones ones_in
example_long = refl

example_kind : forming 4 6 1 0 ≡ Err WishKind
example_kind = refl
