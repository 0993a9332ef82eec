-- What is open, and what a column opens.
use Rattle.std.proofs.Common.{◌≡◌, ℕ, zero, suc, ◌*◌, ◌/◌, ◌%◌, ◌^◌, ◌<◌, ◌≤◌, ◌⊎◌, ◌↔◌, List, [], ◌∷◌, sym, refl, ap, ◌∙◌, ap₂, inl, inr, pow-suc, suc-ne-zero, arith, pow_pos, shr_lt}
use native.Mathlib.Nat.{suc_inj}
use lib.Dec.{eqb-suc-zero}
use lib.Arith.{lt-one}
use lib.Bits.{bit_xor, xor_zero_r, xor_lt, xor_shr, xor_mod}
use Rattle.theory.specs.Words.{total, stratum}
use Rattle.theory.specs.Keys.{Open, Next, here, above}
use Rattle.theory.proofs.Words.{◌⊕◌, up_mod, up_div, mod_0, div_0, top_off}

-- ---- two words of one stratum
abbrev pub Same : List ℕ → ℕ → ℕ → Type 0
Same [] x y = (x ≡ 0) ↔ (y ≡ 0)
Same (w ∷ ws) x y = ((x ≡ 0) ↔ (y ≡ 0)) × Same ws (x / 2 ^ w) (y / 2 ^ w)

pub same_0 : (ws : List ℕ) {x y : ℕ} → Same ws x y → (x ≡ 0) ↔ (y ≡ 0)
same_0 [] h = h
same_0 (w ∷ ws) h = h.0

pub same_sym : (ws : List ℕ) (x y : ℕ) → Same ws x y → Same ws y x
same_sym [] x y h = (h.1, h.0)
same_sym (w ∷ ws) x y h = ((h.0.1, h.0.0), same_sym ws (x / 2 ^ w) (y / 2 ^ w) h.1)

pub stratum_suc : (w : ℕ) (ws : List ℕ) (x : ℕ) → stratum (w ∷ ws) (suc x) ≡ suc (stratum ws (suc x / 2 ^ w))
stratum_suc w ws x = rw (eqb-suc-zero x)

pub same_of_stratum : (ws : List ℕ) (x y : ℕ) → x < 2 ^ total ws → y < 2 ^ total ws → stratum ws x ≡ stratum ws y → Same ws x y
same_of_stratum [] x y hx hy e = (λ _. lt-one hy, λ _. lt-one hx)
same_of_stratum (w ∷ ws) zero zero hx hy e = ((λ _. refl, λ _. refl), same_of_stratum ws (0 / 2 ^ w) (0 / 2 ^ w) (shr_lt (total ws) w hx) (shr_lt (total ws) w hy) refl)
same_of_stratum (w ∷ ws) zero (suc y) hx hy e = absurd (suc-ne-zero (stratum ws (suc y / 2 ^ w)) (sym (e ∙ stratum_suc w ws y)))
same_of_stratum (w ∷ ws) (suc x) zero hx hy e = absurd (suc-ne-zero (stratum ws (suc x / 2 ^ w)) (sym (stratum_suc w ws x) ∙ e))
same_of_stratum (w ∷ ws) (suc x) (suc y) hx hy e = (
  (λ p. absurd (suc-ne-zero x p), λ p. absurd (suc-ne-zero y p)),
  same_of_stratum ws (suc x / 2 ^ w) (suc y / 2 ^ w) (shr_lt (total ws) w hx) (shr_lt (total ws) w hy)
      (suc_inj (sym (stratum_suc w ws x) ∙ e ∙ stratum_suc w ws y)),
)

pub stratum_of_same : (ws : List ℕ) (x y : ℕ) → Same ws x y → stratum ws x ≡ stratum ws y
stratum_of_same [] x y h = refl
stratum_of_same (w ∷ ws) zero zero h = refl
stratum_of_same (w ∷ ws) zero (suc y) h = absurd (suc-ne-zero y (h.0.0 refl))
stratum_of_same (w ∷ ws) (suc x) zero h = absurd (suc-ne-zero x (h.0.1 refl))
stratum_of_same (w ∷ ws) (suc x) (suc y) h =
    stratum_suc w ws x ∙ ap suc (stratum_of_same ws (suc x / 2 ^ w) (suc y / 2 ^ w) h.1) ∙ sym (stratum_suc w ws y)

-- ---- open words
abbrev pub Fits : List ℕ → List ℕ → Type 0
Fits [] [] = Unit {0}
Fits [] (a ∷ os) = ⊥
Fits (w ∷ ws) [] = ⊥
Fits (w ∷ ws) (a ∷ os) = (a ≤ w) × Fits ws os

pub open_0 : (ws os : List ℕ) → Fits ws os → Open ws os 0
open_0 [] [] f = refl
open_0 [] (a ∷ os) f = f
open_0 (w ∷ ws) [] f = f
open_0 (w ∷ ws) (a ∷ os) f = (rw (mod_0 w) (pow_pos a), rw (div_0 w) (open_0 ws os f.1))

pub open_xor : (ws os : List ℕ) (x y : ℕ) → Open ws os x → Open ws os y → Open ws os (x ⊕ y)
open_xor [] [] x y p q = ap₂ bit_xor p q
open_xor [] (a ∷ os) x y p q = p
open_xor (w ∷ ws) [] x y p q = p
open_xor (w ∷ ws) (a ∷ os) x y p q = (
  rw (xor_mod x y w) (xor_lt a (x % 2 ^ w) (y % 2 ^ w) p.0 q.0),
  rw (xor_shr x y w) (open_xor ws os (x / 2 ^ w) (y / 2 ^ w) p.1 q.1),
)

pub open_up : (w a : ℕ) (ws os : List ℕ) (x : ℕ) → Open ws os x → Open (w ∷ ws) (a ∷ os) (x * 2 ^ w)
open_up w a ws os x o = (rw (up_mod w x) (pow_pos a), rw (up_div w x) o)

-- ---- what a column opens
pub next_apart : {ws os ps : List ℕ} {c : ℕ} → Next ws os c ps → Open ws os c → ⊥
next_apart (here l e o) h = let k = h.0 in omega arith
next_apart (above e n) h = next_apart n h.1

pub next_open : {ws os ps : List ℕ} {c : ℕ} → Next ws os c ps → (x : ℕ) → Open ws ps x → Open ws os x ⊎ Open ws os (x ⊕ c)
next_open (here {w} {a} {ws} {os} {c} l e o) x h = go (top_off a (x % 2 ^ w) h.0)
  where
    go : (x % 2 ^ w < 2 ^ a) ⊎ (x % 2 ^ w ⊕ 2 ^ a < 2 ^ a) → Open (w ∷ ws) (a ∷ os) x ⊎ Open (w ∷ ws) (a ∷ os) (x ⊕ c)
    go (inl k) = inl (k, h.1)
    go (inr k) = inr (rw (xor_mod x c w, e) k, rw (xor_shr x c w) (open_xor ws os (x / 2 ^ w) (c / 2 ^ w) h.1 o))
next_open (above {w} {a} {ws} {os} {ps} {c} e n) x h = go (next_open n (x / 2 ^ w) h.1)
  where
    go : Open ws os (x / 2 ^ w) ⊎ Open ws os (x / 2 ^ w ⊕ c / 2 ^ w) → Open (w ∷ ws) (a ∷ os) x ⊎ Open (w ∷ ws) (a ∷ os) (x ⊕ c)
    go (inl k) = inl (h.0, k)
    go (inr k) = inr (rw (xor_mod x c w, e, xor_zero_r) h.0, rw (xor_shr x c w) k)

pub widen : {ws os ps : List ℕ} {c : ℕ} → Next ws os c ps → (x : ℕ) → Open ws os x → Open ws ps x
widen (here {w} {a} l e o) x h = let k = h.0 in (omega (arith, pow-suc 2 a), h.1)
widen (above {w} e n) x h = (h.0, widen n (x / 2 ^ w) h.1)

pub next_in_lem : {ws os ps : List ℕ} {c : ℕ} → Next ws os c ps → Open ws ps c
next_in_lem (here {w} {a} l e o) = (omega (arith, pow-suc 2 a, pow_pos a), o)
next_in_lem (above {w} {a} e n) = (omega (arith, pow_pos a), next_in_lem n)

pub next_fits : {ws os ps : List ℕ} {c : ℕ} → Next ws os c ps → Fits ws os → Fits ws ps
next_fits (here l e o) f = (l, f.1)
next_fits (above e n) f = (f.0, next_fits n f.1)
