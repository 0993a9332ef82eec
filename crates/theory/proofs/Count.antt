-- Where every word is reached, every unit factor is open.
use Rattle.std.proofs.Common.{◌≡◌, ℕ, ◌+◌, ◌*◌, ◌/◌, ◌%◌, ◌^◌, ◌<◌, ◌≤◌, List, [], ◌∷◌, sym, refl, ap, ◌∙◌, subst, lt_of_lt_of_le, mod-lt, mod-eq_of_lt, div-lt_iff_lt-mul, arith, pow_pos, pow_mono, pow-add, shl_lt, shr_lt}
use native.Mathlib.Nat.{div-eq_of_lt}
use lib.Arith.{lt-one}
use Rattle.theory.specs.Words.{total}
use Rattle.theory.specs.Keys.{Open, none}
use Rattle.theory.proofs.Words.{below, up_div}
use Rattle.theory.proofs.Opens.{Same, same_0, Fits}
use Rattle.theory.proofs.Step.{Good, good_up, up, up_high}
use Rattle.theory.proofs.Pigeon.{pigeon, exp_le}

abbrev pub Onto : List ℕ → List ℕ → (ℕ → ℕ) → Type 0
Onto ws os φ = (v : ℕ) → v < 2 ^ total ws → (y : ℕ) × Open ws os y × (φ y ≡ v)

module _ (w a : ℕ) (ws os : List ℕ) (f : Fits (w ∷ ws) (a ∷ os)) (φ : ℕ → ℕ) (g : Good (w ∷ ws) (a ∷ os) φ) (onto : Onto (w ∷ ws) (a ∷ os) φ) where
  onto_up : Onto ws os (up w φ)
  onto_up v h =
      let k = onto (v * 2 ^ w) (shl_lt (total ws) w h) in (
        k.0 / 2 ^ w,
        k.1.1,
        sym (up_high w a ws os f φ g k.0 k.1) ∙ ap (λ (z : ℕ). z / 2 ^ w) k.2 ∙ up_div w v,
      )

  small : (v : ℕ) → v < 2 ^ w → v < 2 ^ (total ws + w)
  small v h = lt_of_lt_of_le h (pow_mono (omega arith))

  get : (v : ℕ) → (y : ℕ) × Open (w ∷ ws) (a ∷ os) y × (φ y ≡ v % 2 ^ w)
  get v = onto (v % 2 ^ w) (small (v % 2 ^ w) (mod-lt v (pow_pos w)))

  into : (v : ℕ) → v < 2 ^ w → (get v).0 < 2 ^ a
  into v h =
      let y : ℕ = (get v).0 in
      let z : y / 2 ^ w ≡ 0 =
      (same_0 ws (g.keep y (get v).1).1).1 (ap (λ (z : ℕ). z / 2 ^ w) (get v).2 ∙ div-eq_of_lt (mod-lt v (pow_pos w))) in
      subst (λ (z : ℕ). z < 2 ^ a) (mod-eq_of_lt (below w y z)) (get v).1.0

  one : (i j : ℕ) → i < 2 ^ w → j < 2 ^ w → (get i).0 ≡ (get j).0 → i ≡ j
  one i j hi hj e = sym ((get i).2 ∙ mod-eq_of_lt hi) ∙ ap φ e ∙ (get j).2 ∙ mod-eq_of_lt hj

  pub lowest : w ≤ a
  lowest = exp_le w a (pigeon (2 ^ w) (2 ^ a) (λ v. (get v).0) into one)

pub all_open_lem : (ws os : List ℕ) → Fits ws os → (φ : ℕ → ℕ) → Good ws os φ → Onto ws os φ → (v : ℕ) → v < 2 ^ total ws → Open ws os v
all_open_lem [] [] f φ g onto v h = lt-one h
all_open_lem [] (a ∷ os) f φ g onto v h = f
all_open_lem (w ∷ ws) [] f φ g onto v h = f
all_open_lem (w ∷ ws) (a ∷ os) f φ g onto v h = (
  lt_of_lt_of_le (mod-lt v (pow_pos w)) (pow_mono (lowest w a ws os f φ g onto)),
  all_open_lem ws os f.1 (up w φ) (good_up w a ws os φ g) (onto_up w a ws os f φ g onto) (v / 2 ^ w) (shr_lt (total ws) w h),
)

pub open_lt : (ws os : List ℕ) (x : ℕ) → Open ws os x → x < 2 ^ total ws
open_lt [] [] x o = rw o (pow_pos 0)
open_lt [] (a ∷ os) x o = absurd o
open_lt (w ∷ ws) [] x o = absurd o
open_lt (w ∷ ws) (a ∷ os) x o = rw (pow-add 2 (total ws) w) ((div-lt_iff_lt-mul (pow_pos w)).0 (open_lt ws os (x / 2 ^ w) o.1))

-- ---- the start
pub none_fits : (ws : List ℕ) → Fits ws (none ws)
none_fits [] = tt
none_fits (w ∷ ws) = (omega arith, none_fits ws)

pub none_0 : (ws : List ℕ) (x : ℕ) → Open ws (none ws) x → x ≡ 0
none_0 [] x o = o
none_0 (w ∷ ws) x o =
    sym (mod-eq_of_lt (below w x (none_0 ws (x / 2 ^ w) o.1))) ∙ lt-one o.0

same_refl : (ws : List ℕ) (x : ℕ) → Same ws x x
same_refl [] x = (λ e. e, λ e. e)
same_refl (w ∷ ws) x = ((λ e. e, λ e. e), same_refl ws (x / 2 ^ w))

pub good_none : (ws : List ℕ) → Good ws (none ws) (λ x. 0)
good_none ws =
    record { lin = λ x y. refl; fit = λ x. pow_pos (total ws); keep = λ x o. subst (λ (z : ℕ). Same ws z 0) (sym (none_0 ws x o)) (same_refl ws 0) }
