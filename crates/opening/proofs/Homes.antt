-- The layers of factors by name. Assumes nothing.
use Rattle.std.proofs.Common.{◌≡◌, ℕ, zero, suc, ◌<◌, ◌≤◌, ◌≢◌, Bool, true, false, not, Some, None, Option, get_or, option_map, refl, sym, ap, subst, ◌∙◌, inl, inr, arith}
use Rattle.std.specs.Option.{option_eq}
use Rattle.theory.specs.contracts.stratum.StratumPartialEq.TheImpl.{eq-value as equal}
use Rattle.theory.specs.declared.stratum.Stratum.{Stratum}
use Rattle.theory.specs.declared.stratum.Stratum.TheVariants.{Mean, WholePlots, Subplots}
use Rattle.std.proofs.lemmas.Bool.{cases_lt, false≢true}
use Rattle.std.proofs.lemmas.Option.{slice_get-get_or}
use Rattle.theory.specs.Strata.{stratum_number, stratum_named}
use Rattle.theory.proofs.Homes.{length_homes, home_whole, home_sub}
use Rattle.opening.specs.declared.Shape.{Shape}
use Rattle.opening.specs.Shapes.{homes_of, factors_of, home_of}

-- a name tells its layer
pub number_named : (l : ℕ) → l ≤ 2 → stratum_number (stratum_named l) ≡ l
number_named zero h = refl
number_named (suc zero) h = refl
number_named (suc (suc zero)) h = refl
number_named (suc (suc (suc l))) h = absurd (omega arith)

module _ (shape : Shape) (i : ℕ) (within : i < factors_of shape) where
  -- a factor has a layer
  pub home_named : home_of shape i ≡ Some (stratum_named (get_or (homes_of shape) i 0))
  home_named = ap (option_map stratum_named) (slice_get-get_or (homes_of shape) i 0 (omega (arith, length_homes shape.n1 shape.n2)))

  pub layer_within : get_or (homes_of shape) i 0 ≤ 2
  layer_within = elim (cases_lt i shape.n1) [
    | inl h ↦ omega (arith, home_whole shape.n1 shape.n2 i h)
    | inr h ↦ omega (arith, home_sub shape.n1 shape.n2 i h within)
  ]

of_not : (b : Bool) → not b ≡ false → b ≡ true
of_not true h = refl
of_not false h = absurd (false≢true (sym h))

-- what `==` tells of two names
pub names_same : (a b : Option Stratum) → option_eq equal.it a b ≡ true → a ≡ b
names_same None None h = refl
names_same None (Some b) h = absurd (false≢true h)
names_same (Some a) None h = absurd (false≢true h)
names_same (Some Mean) (Some Mean) h = refl
names_same (Some Mean) (Some WholePlots) h = absurd (false≢true h)
names_same (Some Mean) (Some Subplots) h = absurd (false≢true h)
names_same (Some WholePlots) (Some Mean) h = absurd (false≢true h)
names_same (Some WholePlots) (Some WholePlots) h = refl
names_same (Some WholePlots) (Some Subplots) h = absurd (false≢true h)
names_same (Some Subplots) (Some Mean) h = absurd (false≢true h)
names_same (Some Subplots) (Some WholePlots) h = absurd (false≢true h)
names_same (Some Subplots) (Some Subplots) h = refl

pub same_names : (a : Option Stratum) → option_eq equal.it a a ≡ true
same_names None = refl
same_names (Some Mean) = refl
same_names (Some WholePlots) = refl
same_names (Some Subplots) = refl

-- factors with one name have one layer
pub same_layer : (shape : Shape) (i j : ℕ) → i < factors_of shape → j < factors_of shape → home_of shape i ≡ home_of shape j → get_or (homes_of shape) i 0 ≡ get_or (homes_of shape) j 0
same_layer shape i j p q same =
    let a = home_named shape i p in
    let b = home_named shape j q in
    let named : stratum_named (get_or (homes_of shape) i 0) ≡ stratum_named (get_or (homes_of shape) j 0) = cc in
    sym (number_named (get_or (homes_of shape) i 0) (layer_within shape i p)) ∙ ap stratum_number named ∙ number_named (get_or (homes_of shape) j 0) (layer_within shape j q)

-- what `!=` tells of the layers of two factors
module _ (shape : Shape) (i j : ℕ) (p : i < factors_of shape) (q : j < factors_of shape) (other : Bool) (told : other ≡ not (option_eq equal.it (home_of shape i) (home_of shape j))) where
  pub layers_differ : other ≡ true → get_or (homes_of shape) i 0 ≢ get_or (homes_of shape) j 0
  layers_differ h same =
      let one : home_of shape i ≡ home_of shape j = home_named shape i p ∙ ap (λ (l : ℕ). Some (stratum_named l)) same ∙ sym (home_named shape j q) in
      let equals : option_eq equal.it (home_of shape i) (home_of shape j) ≡ true = subst (λ (b : Option Stratum). option_eq equal.it (home_of shape i) b ≡ true) one (same_names (home_of shape i)) in
      false≢true (sym (told ∙ ap not equals) ∙ h)

  pub layers_same : other ≡ false → get_or (homes_of shape) i 0 ≡ get_or (homes_of shape) j 0
  layers_same h = same_layer shape i j p q (names_same (home_of shape i) (home_of shape j) (of_not (option_eq equal.it (home_of shape i) (home_of shape j)) (sym told ∙ h)))
