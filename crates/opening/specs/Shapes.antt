-- Shapes: which numbers open one, and its layers and factors. Assumes nothing.
use Rattle.std.specs.Prelude.{◌≡◌, ℕ, ◌+◌, ◌-◌, ◌^◌, Bool, cond, ◌&&◌, List, [], ◌∷◌, Some, None, Ok, Err, Option, Result, MatchResult, nat_le, nat_lt, option_map, slice_get, refl}
use Rattle.std.specs.Option.{option_map_or}
use Rattle.theory.specs.declared.refusal.Refusal.{Refusal}
use Rattle.theory.specs.declared.refusal.Refusal.TheVariants.{WholePlotUnits, SubplotUnits, WholePlotFactors, SubplotFactors, FactorCount, NoEffect}
use Rattle.theory.specs.declared.stratum.Stratum.{Stratum}
use Rattle.theory.specs.Words.{total, stratum}
use Rattle.theory.specs.Strata.{stratum_named}
use Rattle.theory.specs.Keys.{homes}
use Rattle.opening.specs.declared.Shape.{Shape}

-- how many unit factors each layer has, whole plots first
abbrev pub layers_of : Shape → List ℕ
layers_of shape = shape.w ∷ shape.s ∷ []

-- the layer of each factor
abbrev pub homes_of : Shape → List ℕ
homes_of shape = homes (shape.n1 ∷ shape.n2 ∷ [])

-- how many unit factors there are; the runs are the numbers below 2 ^ units_of shape
abbrev pub units_of : Shape → ℕ
units_of shape = total (layers_of shape)

-- how many factors there are; the effects are the numbers below 2 ^ factors_of shape
abbrev pub factors_of : Shape → ℕ
factors_of shape = shape.n1 + shape.n2

-- how many effects each chain of a sound key has
abbrev pub size_of_chain : Shape → ℕ
size_of_chain shape = 2 ^ (factors_of shape - units_of shape)

-- the stratum of a word
abbrev pub stratum_in : Shape → ℕ → Stratum
stratum_in shape word = stratum_named (stratum (layers_of shape) word)

-- the layer of a factor, counted from 0, by name; none where there is no such factor
abbrev pub home_of : Shape → ℕ → Option Stratum
home_of shape factor = option_map stratum_named (slice_get (homes_of shape) factor)

-- x is from a to b
abbrev pub within : ℕ → ℕ → ℕ → Bool
within a x b = nat_le a x && nat_le x b

-- The checks of an opening, each with the refusal that a 'no' gives.
abbrev pub opening_checks : ℕ → ℕ → ℕ → ℕ → List (Bool × Refusal)
opening_checks w s n1 n2 =
    (within 1 w 4, WholePlotUnits)
    ∷ (within 1 s 4 && nat_le (w + s) 5, SubplotUnits)
    ∷ (within 1 n1 9, WholePlotFactors)
    ∷ (within 1 n2 9, SubplotFactors)
    ∷ (within (w + s) (n1 + n2) (w + s + 5), FactorCount)
    ∷ []

-- the refusal of the first check that says 'no'
abbrev pub first_fault : List (Bool × Refusal) → Option Refusal
first_fault [] = None
first_fault (check ∷ checks) = cond check.0 (first_fault checks) (Some check.1)

-- the answer where no check says 'no', and else that refusal
abbrev pub granted : {A : Type 0} → List (Bool × Refusal) → A → Result A Refusal
granted checks answer = option_map_or Err (first_fault checks) (Ok answer)

abbrev pub opening_fault : ℕ → ℕ → ℕ → ℕ → Option Refusal
opening_fault w s n1 n2 = first_fault (opening_checks w s n1 n2)

-- What an opening answers: the shape with the numbers given where no check says 'no', and else the first refusal.
abbrev pub Opening : ℕ → ℕ → ℕ → ℕ → Result Shape Refusal → Type 0
Opening w s n1 n2 r =
    MatchResult r
    (λ shape. (opening_fault w s n1 n2 ≡ None) × (shape.w ≡ w) × (shape.s ≡ s) × (shape.n1 ≡ n1) × (shape.n2 ≡ n2))
    (λ why. opening_fault w s n1 n2 ≡ Some why)

example_opens : opening_fault 2 1 1 3 ≡ None
example_opens = refl

example_units : opening_fault 4 2 1 5 ≡ Some SubplotUnits
example_units = refl

example_count : opening_fault 2 1 1 1 ≡ Some FactorCount
example_count = refl

-- an effect beyond the last
example_refused : granted {A = ℕ} ((nat_lt 16 (2 ^ 4), NoEffect) ∷ []) 2 ≡ Err NoEffect
example_refused = refl
