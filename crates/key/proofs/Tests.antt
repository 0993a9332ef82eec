-- What the tests of a key say of its columns.
use Rattle.std.proofs.Common.{◌≡◌, ℕ, suc, ◌/◌, ◌^◌, ◌<◌, ◌≤◌, ◌↔◌, Bool, true, false, cond, not, ◌&&◌, eqb, ltb, List, length, get_or, take, Some, IsTrue, sym, ap, ◌∙◌, subst, ap₂, zero-add, arith, lt-ltb, ltb-true, true≢false}
use Rattle.std.specs.List.{list_any, list_all, enumerate_from}
use Rattle.std.specs.Option.{option_eq}
use Rattle.std.proofs.lemmas.Bool.{eq-eqb, ne_eqb, and_parts, and_from, not-true, not_from_false}
use Rattle.std.proofs.lemmas.List.{get_or_default, get_or-take, length-take-le}
use Rattle.std.proofs.lemmas.List.Folds.{list_any_at, list_any_none}
use Rattle.std.proofs.lemmas.List.FromFn.{length-enumerate_from, get_or-enumerate_from}
use Rattle.std.proofs.lemmas.List.Sums.{AllPass-from_list_all, list_all-from_AllPass}
use Rattle.theory.specs.contracts.stratum.StratumPartialEq.TheImpl.{eq-value as equal}
use Rattle.theory.specs.Words.{stratum}
use Rattle.theory.specs.Keys.{Words, Own, Apart}
use Rattle.theory.specs.Strata.{stratum_number, stratum_named}
use Rattle.opening.specs.declared.Shape.{Shape}
use Rattle.opening.specs.Shapes.{layers_of, homes_of, units_of, factors_of, stratum_in, home_of}
use Rattle.opening.proofs.Homes.{number_named, home_named, layer_within, names_same, same_names}

-- ---- a test of each element with its place
module _ {X : Type 0} (test : ℕ × X → Bool) (xs : List X) (d : X) where
  place_at : (i : ℕ) (e : ℕ × X) → i < length xs → get_or (enumerate_from 0 xs) i e ≡ (i, get_or xs i d)
  place_at i e l = get_or-enumerate_from 0 xs i e l ∙ ap₂ (λ (k : ℕ) (x : X). (k, x)) (zero-add i) (get_or_default xs i e.1 d l)

  passes_each : IsTrue (list_all test (enumerate_from 0 xs)) → (i : ℕ) → i < length xs → test (i, get_or xs i d) ≡ true
  passes_each h i l = ap test (sym (place_at i (0, d) l)) ∙ AllPass-from_list_all test (enumerate_from 0 xs) h i (0, d) (omega (arith, length-enumerate_from 0 xs))

  passes_all : ((i : ℕ) → i < length xs → test (i, get_or xs i d) ≡ true) → IsTrue (list_all test (enumerate_from 0 xs))
  passes_all h = list_all-from_AllPass test (enumerate_from 0 xs) (λ i e l. let m : i < length xs = omega (arith, length-enumerate_from 0 xs) in ap test (place_at i e m) ∙ h i m)

-- ---- no column is one of those before it
abbrev pub apart_test : List ℕ → ℕ × ℕ → Bool
apart_test cs p = not (list_any (λ y. eqb y p.1) (take p.0 cs))

pub apart_is : (cs : List ℕ) → IsTrue (list_all (apart_test cs) (enumerate_from 0 cs)) ↔ Apart cs
apart_is cs = (
  λ h i j l m e.
      let here = ap (λ (y : ℕ). eqb y (get_or cs j 0)) (get_or-take j cs i 0 l) ∙ eq-eqb (get_or cs i 0) (get_or cs j 0) e in
      let found = list_any_at (λ y. eqb y (get_or cs j 0)) (take j cs) i 0 (omega (arith, length-take-le j cs (omega arith))) here in
      true≢false (sym found ∙ not-true (list_any (λ y. eqb y (get_or cs j 0)) (take j cs)) (passes_each (apart_test cs) cs 0 h j m)),
  λ apart. passes_all (apart_test cs) cs 0 (λ j m.
      not_from_false (list_any (λ y. eqb y (get_or cs j 0)) (take j cs)) (list_any_none (λ y. eqb y (get_or cs j 0)) (take j cs) (λ i d l.
      let low : i < j = omega (arith, length-take-le j cs (omega arith)) in
      ne_eqb (get_or (take j cs) i d) (get_or cs j 0) (λ e. apart i j low m (get_or_default cs i 0 d (omega arith) ∙ sym (get_or-take j cs i d low) ∙ e))))),
)

-- ---- a column is a unit word in the layer of its factor
abbrev pub placed_test : Shape → ℕ × ℕ → Bool
placed_test shape p = ltb p.1 (2 ^ units_of shape) && option_eq equal.it (home_of shape p.0) (Some (stratum_in shape p.1))

module _ (shape : Shape) (v i : ℕ) (within : i < factors_of shape) where
  stratum_le : stratum (layers_of shape) v ≤ 2
  stratum_le = at (eqb v 0) (eqb (v / 2 ^ shape.w) 0)
    where
      at : (a b : Bool) → cond a 0 (suc (cond b 0 1)) ≤ 2
      at true b = omega arith
      at false true = omega arith
      at false false = omega arith

  home_is : option_eq equal.it (home_of shape i) (Some (stratum_in shape v)) ≡ true → stratum (layers_of shape) v ≡ get_or (homes_of shape) i 0
  home_is h =
      let named : Some (stratum_named (get_or (homes_of shape) i 0)) ≡ Some (stratum_in shape v) = sym (home_named shape i within) ∙ names_same (home_of shape i) (Some (stratum_in shape v)) h in
      let same : stratum_in shape v ≡ stratum_named (get_or (homes_of shape) i 0) = cc in
      sym (number_named (stratum (layers_of shape) v) stratum_le) ∙ ap stratum_number same ∙ number_named (get_or (homes_of shape) i 0) (layer_within shape i within)

  home_has : stratum (layers_of shape) v ≡ get_or (homes_of shape) i 0 → option_eq equal.it (home_of shape i) (Some (stratum_in shape v)) ≡ true
  home_has e =
      let one = home_named shape i within ∙ ap (λ (l : ℕ). Some (stratum_named l)) (sym e) in
      subst (λ b. option_eq equal.it (home_of shape i) b ≡ true) one (same_names (home_of shape i))

pub placed_is : (shape : Shape) (cs : List ℕ) → length cs ≡ factors_of shape → IsTrue (list_all (placed_test shape) (enumerate_from 0 cs)) ↔ Words (layers_of shape) cs × Own (layers_of shape) (homes_of shape) cs
placed_is shape cs long = (
  λ h.
      let parts = λ (i : ℕ) (l : i < length cs). and_parts (ltb (get_or cs i 0) (2 ^ units_of shape)) (option_eq equal.it (home_of shape i) (Some (stratum_in shape (get_or cs i 0)))) (passes_each (placed_test shape) cs 0 h i l) in (
        λ i l. ltb-true (get_or cs i 0) (2 ^ units_of shape) (parts i l).0,
        λ i l. home_is shape (get_or cs i 0) i (omega arith) (parts i l).1,
      ),
  λ so. passes_all (placed_test shape) cs 0 (λ i l.
      and_from (ltb (get_or cs i 0) (2 ^ units_of shape)) (option_eq equal.it (home_of shape i) (Some (stratum_in shape (get_or cs i 0))))
      (lt-ltb (get_or cs i 0) (2 ^ units_of shape) (so.0 i l)) (home_has shape (get_or cs i 0) i (omega arith) (so.1 i l))),
)

-- ---- each of the first n marks is set
pub marks_are : (marks : List Bool) (n : ℕ) → n ≤ length marks → IsTrue (list_all (λ mark. mark) (take n marks)) ↔ ((v : ℕ) → v < n → get_or marks v false ≡ true)
marks_are marks n h = (
  λ all v l. sym (get_or-take n marks v false l) ∙ AllPass-from_list_all (λ mark. mark) (take n marks) all v false (omega (arith, length-take-le n marks h)),
  λ each. list_all-from_AllPass (λ mark. mark) (take n marks) (λ v d l.
      let low : v < n = omega (arith, length-take-le n marks h) in
      get_or-take n marks v d low ∙ get_or_default marks v d false (omega arith) ∙ each v low),
)
