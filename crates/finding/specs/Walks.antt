-- The keys of a walk: column by column, each word in its turn. Assumes nothing.
--
-- There are w whole-plot unit factors W and s subplot unit factors S, n1 whole-plot factors and then n2 subplot factors.
use Rattle.std.specs.Prelude.{◌≡◌, ℕ, zero, suc, ◌+◌, ◌-◌, ◌/◌, ◌%◌, ◌^◌, ◌≤◌, Bool, not, if◌then◌else◌, ◌&&◌, List, [], ◌∷◌, ◌++◌, length, Some, None, Option, ◌==◌, nat_le, nat_lt, refl}
use Rattle.std.specs.List.{list_any}
use Rattle.opening.specs.declared.Shape.{Shape}
use Rattle.opening.specs.Shapes.{factors_of}
use Rattle.figures.specs.declared.counts.Counts.{Counts}
use Rattle.figures.specs.Counted.{columns_in}
use Rattle.finding.specs.declared.begun.Opened.{Opened}

-- no unit factor is open
abbrev pub none_open : Opened
none_open = record { whole = 0; sub = 0 }

-- every unit factor is open
abbrev pub is_all : (w s : ℕ) → Opened → Bool
is_all w s o = o.whole == w && o.sub == s

-- no more are open than there are
abbrev pub Within : (w s : ℕ) → Opened → Type 0
Within w s o = (o.whole ≤ w) × (o.sub ≤ s)

-- how many are closed
abbrev pub closed_in : Shape → Opened → ℕ
closed_in shape o = shape.w - o.whole + (shape.s - o.sub)

-- What is open after the column c: c has open unit factors only, or the next W with any open S's, or is the next S. None
-- where c is none of these.
abbrev pub after : (w s : ℕ) → Opened → ℕ → Option Opened
after w s o c =
    if nat_lt (c / 2 ^ w) (2 ^ o.sub)
    then (if nat_lt (c % 2 ^ w) (2 ^ o.whole) then Some o
    else (if nat_lt o.whole w && c % 2 ^ w == 2 ^ o.whole then Some (record { whole = o.whole + 1; sub = o.sub }) else None))
    else (if nat_lt o.sub s && c == 2 ^ (w + o.sub) then Some (record { whole = o.whole; sub = o.sub + 1 }) else None)

-- c is one of the columns
abbrev pub held : ℕ → List ℕ → Bool
held c cs = list_any (λ d. d == c) cs

-- the word c lies in the layer of factor i, counted from 0
abbrev pub is_in_layer : (w n1 i c : ℕ) → Bool
is_in_layer w n1 i c = if nat_lt i n1 then not (c == 0) && nat_lt c (2 ^ w) else nat_le (2 ^ w) c

-- what is open after the column c behind the columns used, where it may stand there
abbrev pub next : (w s n1 : ℕ) → List ℕ → Opened → ℕ → Option Opened
next w s n1 used o c = if is_in_layer w n1 (length used) c && not (held c used) then after w s o c else None

-- the keys that follow from what is then open, if anything is
abbrev pub go_on : Option Opened → (Opened → List (List ℕ)) → List (List ℕ)
go_on None f = []
go_on (Some o) f = f o

-- the lists of the numbers below n, one after another
abbrev pub upto : (ℕ → List (List ℕ)) → ℕ → List (List ℕ)
upto f zero = []
upto f (suc c) = upto f c ++ f c

-- the keys that go on from the columns used by r more, and have every unit factor open at their end
unfoldable pub keys_from : (w s n1 r : ℕ) → List ℕ → Opened → List (List ℕ)
keys_from w s n1 zero used o = if is_all w s o then used ∷ [] else []
keys_from w s n1 (suc r) used o = upto (λ c. go_on (next w s n1 used o c) (keys_from w s n1 r (used ++ c ∷ []))) (2 ^ (w + s))

-- those of them whose next column is c
abbrev pub branch : (w s n1 r : ℕ) → List ℕ → Opened → ℕ → List (List ℕ)
branch w s n1 r used o c = go_on (next w s n1 used o c) (keys_from w s n1 r (used ++ c ∷ []))

-- the same of the counted columns
abbrev pub next_in : Counts → Opened → ℕ → Option Opened
next_in counts o c = next counts.shape.w counts.shape.s counts.shape.n1 (columns_in counts) o c

-- the keys of a walk from the counted columns, where they leave o open; and those of them whose next column is c
abbrev pub keys_after : Counts → Opened → List (List ℕ)
keys_after counts o = keys_from counts.shape.w counts.shape.s counts.shape.n1 (factors_of counts.shape - length (columns_in counts)) (columns_in counts) o

abbrev pub branch_after : Counts → Opened → ℕ → List (List ℕ)
branch_after counts o c = branch counts.shape.w counts.shape.s counts.shape.n1 (factors_of counts.shape - length (columns_in counts) - 1) (columns_in counts) o c

-- all keys of a walk
abbrev pub all_keys : (w s n1 n2 : ℕ) → List (List ℕ)
all_keys w s n1 n2 = keys_from w s n1 (n1 + n2) [] none_open

abbrev pub standard_keys : Shape → List (List ℕ)
standard_keys shape = all_keys shape.w shape.s shape.n1 shape.n2

example_keys : all_keys 2 1 1 3 ≡ (1 ∷ 4 ∷ 5 ∷ 6 ∷ []) ∷ (1 ∷ 4 ∷ 6 ∷ 5 ∷ []) ∷ (1 ∷ 4 ∷ 6 ∷ 7 ∷ []) ∷ []
unfolding keys_from
example_keys = refl
