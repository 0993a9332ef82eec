-- One column more: where the words over the open unit factors stand for words of a key, layer by layer, the next column of the key
-- stands for an open word, or for just the next unit factor of a layer with open ones of the layers above.
use Rattle.std.proofs.Common.{◌≡◌, ℕ, suc, ◌+◌, ◌*◌, ◌/◌, ◌%◌, ◌^◌, ◌<◌, ◌≢◌, ◌⊎◌, List, [], ◌∷◌, sym, refl, ap, ◌∙◌, subst, ap₂, subst₂, inl, inr, lt_of_lt_of_le, mod-lt, mod-eq_of_lt, arith, pow_pos, pow_mono, shr_lt}
use native.Mathlib.Nat.{div-eq_of_lt}
use lib.Arith.{lt-one}
use lib.Pow.{pow-lt, split, high, low}
use lib.Bits.{bit_xor, xor_comm, xor_zero_r, xor_shr, xor_mod, xor_shifted}
use Rattle.theory.specs.Words.{total}
use Rattle.theory.specs.Keys.{Open, Next, here, above}
use Rattle.theory.proofs.Words.{◌⊕◌, cancel, same, xor_0, parts, below, up_mod, up_div, div_0}
use Rattle.theory.proofs.Opens.{Same, same_0, Fits, open_0, open_xor, open_up, next_apart}
use Rattle.theory.proofs.Pigeon.{seek, room, exp_lt}

-- φ takes the words over the open unit factors to words of the key
pub record Good (ws os : List ℕ) (φ : ℕ → ℕ) : Type 0 where
  pub lin : (x y : ℕ) → φ (x ⊕ y) ≡ φ x ⊕ φ y
  pub fit : (x : ℕ) → φ x < 2 ^ total ws
  pub keep : (x : ℕ) → Open ws os x → Same ws x (φ x)

pub good_inj : (ws os : List ℕ) (φ : ℕ → ℕ) → Good ws os φ → (x y : ℕ) → Open ws os x → Open ws os y → φ x ≡ φ y → x ≡ y
good_inj ws os φ g x y ox oy e =
    same x y ((same_0 ws (g.keep (x ⊕ y) (open_xor ws os x y ox oy))).1 (g.lin x y ∙ xor_0 (φ x) (φ y) e))

-- ---- the layers above
abbrev pub up : ℕ → (ℕ → ℕ) → ℕ → ℕ
up w φ x = φ (x * 2 ^ w) / 2 ^ w

shl_xor : (w x y : ℕ) → (x ⊕ y) * 2 ^ w ≡ x * 2 ^ w ⊕ y * 2 ^ w
shl_xor w x y =
    parts w ((x ⊕ y) * 2 ^ w) (x * 2 ^ w ⊕ y * 2 ^ w)
    (up_mod w (x ⊕ y) ∙ sym (xor_mod (x * 2 ^ w) (y * 2 ^ w) w ∙ ap₂ bit_xor (up_mod w x) (up_mod w y)))
    (up_div w (x ⊕ y) ∙ sym (xor_shr (x * 2 ^ w) (y * 2 ^ w) w ∙ ap₂ bit_xor (up_div w x) (up_div w y)))

pub good_up : (w a : ℕ) (ws os : List ℕ) (φ : ℕ → ℕ) → Good (w ∷ ws) (a ∷ os) φ → Good ws os (up w φ)
good_up w a ws os φ g =
    record {
      lin = λ x y. ap (λ (z : ℕ). φ z / 2 ^ w) (shl_xor w x y) ∙ ap (λ (z : ℕ). z / 2 ^ w) (g.lin (x * 2 ^ w) (y * 2 ^ w)) ∙ xor_shr (φ (x * 2 ^ w)) (φ (y * 2 ^ w)) w;
      fit = λ x. shr_lt (total ws) w (g.fit (x * 2 ^ w));
      keep = λ x o. subst (λ (z : ℕ). Same ws z (up w φ x)) (up_div w x) (g.keep (x * 2 ^ w) (open_up w a ws os x o)).1;
    }

-- ---- the lowest layer
pub low_open : (w a : ℕ) (ws os : List ℕ) → Fits (w ∷ ws) (a ∷ os) → (y : ℕ) → y < 2 ^ a → Open (w ∷ ws) (a ∷ os) y
low_open w a ws os f y h =
    let l : y < 2 ^ w = lt_of_lt_of_le h (pow_mono f.0) in
    (rw (mod-eq_of_lt l) h, rw (div-eq_of_lt l) (open_0 ws os f.1))

pub low_stays : (w a : ℕ) (ws os : List ℕ) → Fits (w ∷ ws) (a ∷ os) → (φ : ℕ → ℕ) → Good (w ∷ ws) (a ∷ os) φ → (y : ℕ) → y < 2 ^ a → φ y / 2 ^ w ≡ 0
low_stays w a ws os f φ g y h =
    (same_0 ws (g.keep y (low_open w a ws os f y h)).1).0 (div-eq_of_lt (lt_of_lt_of_le h (pow_mono f.0)))

xsplit : (w x : ℕ) → x ≡ x / 2 ^ w * 2 ^ w ⊕ x % 2 ^ w
xsplit w x = sym (xor_shifted (x / 2 ^ w) w (x % 2 ^ w) (mod-lt x (pow_pos w)) ∙ split x w)

pub up_high : (w a : ℕ) (ws os : List ℕ) → Fits (w ∷ ws) (a ∷ os) → (φ : ℕ → ℕ) → Good (w ∷ ws) (a ∷ os) φ → (x : ℕ) → Open (w ∷ ws) (a ∷ os) x
    → φ x / 2 ^ w ≡ up w φ (x / 2 ^ w)
up_high w a ws os f φ g x o =
    let hi : ℕ = x / 2 ^ w * 2 ^ w in
    let lo : ℕ = x % 2 ^ w in
    ap (λ (z : ℕ). φ z / 2 ^ w) (xsplit w x)
    ∙ ap (λ (z : ℕ). z / 2 ^ w) (g.lin hi lo)
    ∙ xor_shr (φ hi) (φ lo) w
    ∙ ap (λ (z : ℕ). φ hi / 2 ^ w ⊕ z) (low_stays w a ws os f φ g lo o.0)
    ∙ xor_zero_r (φ hi / 2 ^ w)

abbrev pub Meets : List ℕ → List ℕ → (ℕ → ℕ) → ℕ → ℕ → Type 0
Meets ws os φ c d = (x : ℕ) → Open ws os x → Same ws (x ⊕ d) (φ x ⊕ c)

abbrev pub Old : List ℕ → List ℕ → (ℕ → ℕ) → ℕ → Type 0
Old ws os φ c = (d : ℕ) × Open ws os d × (φ d ≡ c)

abbrev pub New : List ℕ → List ℕ → (ℕ → ℕ) → ℕ → Type 0
New ws os φ c = (d : ℕ) × (ps : List ℕ) × Next ws os d ps × Meets ws os φ c d

-- ---- the step at a layer
module _ (w a : ℕ) (ws os : List ℕ) (f : Fits (w ∷ ws) (a ∷ os)) (φ : ℕ → ℕ) (g : Good (w ∷ ws) (a ∷ os) φ) (c : ℕ) where
  -- the column opens a unit factor of a layer above
  from_above : New ws os (up w φ) (c / 2 ^ w) → New (w ∷ ws) (a ∷ os) φ c
  from_above (d, ps, n, k) = (d * 2 ^ w, a ∷ ps, above (up_mod w d) (subst (λ (z : ℕ). Next ws os z ps) (sym (up_div w d)) n), meets)
    where
      d_high : (x : ℕ) → (x ⊕ d * 2 ^ w) / 2 ^ w ≡ x / 2 ^ w ⊕ d
      d_high x = xor_shr x (d * 2 ^ w) w ∙ ap (λ (z : ℕ). x / 2 ^ w ⊕ z) (up_div w d)

      c_high : (x : ℕ) → Open (w ∷ ws) (a ∷ os) x → (φ x ⊕ c) / 2 ^ w ≡ up w φ (x / 2 ^ w) ⊕ c / 2 ^ w
      c_high x o = xor_shr (φ x) c w ∙ ap (λ (z : ℕ). z ⊕ c / 2 ^ w) (up_high w a ws os f φ g x o)

      apart : (x : ℕ) → Open (w ∷ ws) (a ∷ os) x → x / 2 ^ w ⊕ d ≡ 0 → ⊥
      apart x o e = next_apart n (subst (Open ws os) (same (x / 2 ^ w) d e) o.1)

      meets : Meets (w ∷ ws) (a ∷ os) φ c (d * 2 ^ w)
      meets x o = (
        (
          λ e. absurd (apart x o (sym (d_high x) ∙ ap (λ (z : ℕ). z / 2 ^ w) e ∙ div_0 w)),
          λ e. absurd (apart x o ((same_0 ws (k (x / 2 ^ w) o.1)).1 (sym (c_high x o) ∙ ap (λ (z : ℕ). z / 2 ^ w) e ∙ div_0 w))),
        ),
        subst₂ (λ (y z : ℕ). Same ws y z) (sym (d_high x)) (sym (c_high x o)) (k (x / 2 ^ w) o.1),
      )

  -- it does not: only the lowest layer is left
  module _ (t : ℕ) (ot : Open ws os t) (et : up w φ t ≡ c / 2 ^ w) where
    rest : ℕ
    rest = φ (t * 2 ^ w) ⊕ c

    rest_high : rest / 2 ^ w ≡ 0
    unfolding rest
    rest_high = xor_shr (φ (t * 2 ^ w)) c w ∙ xor_0 (up w φ t) (c / 2 ^ w) et

    o₀ : Open (w ∷ ws) (a ∷ os) (t * 2 ^ w)
    o₀ = open_up w a ws os t ot

    stay : (y : ℕ) → y < 2 ^ a → φ y ≡ rest → Old (w ∷ ws) (a ∷ os) φ c
    unfolding rest
    stay y h e = (
      t * 2 ^ w ⊕ y,
      open_xor (w ∷ ws) (a ∷ os) (t * 2 ^ w) y o₀ (low_open w a ws os f y h),
      g.lin (t * 2 ^ w) y ∙ ap (λ (z : ℕ). φ (t * 2 ^ w) ⊕ z) e ∙ cancel (φ (t * 2 ^ w)) c,
    )

    module _ (miss : (y : ℕ) → y < 2 ^ a → φ y ≢ rest) where
      free : a < w
      free =
          exp_lt a w
          (room (2 ^ a) (2 ^ w) φ (λ y h. below w (φ y) (low_stays w a ws os f φ g y h))
          (λ y z hy hz e. good_inj (w ∷ ws) (a ∷ os) φ g y z (low_open w a ws os f y hy) (low_open w a ws os f z hz) e)
          rest (below w rest rest_high) miss)

      next_low : (t * 2 ^ w + 2 ^ a) % 2 ^ w ≡ 2 ^ a
      next_low = low t w (pow-lt free)

      next_high : (t * 2 ^ w + 2 ^ a) / 2 ^ w ≡ t
      next_high = high t w (pow-lt free)

      d_high : (x : ℕ) → (x ⊕ (t * 2 ^ w + 2 ^ a)) / 2 ^ w ≡ (x ⊕ t * 2 ^ w) / 2 ^ w
      d_high x =
          xor_shr x (t * 2 ^ w + 2 ^ a) w ∙ ap (λ (z : ℕ). x / 2 ^ w ⊕ z) (next_high ∙ sym (up_div w t)) ∙ sym (xor_shr x (t * 2 ^ w) w)

      c_high : (x : ℕ) → (φ x ⊕ c) / 2 ^ w ≡ φ (x ⊕ t * 2 ^ w) / 2 ^ w
      c_high x =
          xor_shr (φ x) c w ∙ ap (λ (z : ℕ). φ x / 2 ^ w ⊕ z) (sym et) ∙ sym (xor_shr (φ x) (φ (t * 2 ^ w)) w)
          ∙ ap (λ (z : ℕ). z / 2 ^ w) (sym (g.lin x (t * 2 ^ w)))

      not_d : (x : ℕ) → Open (w ∷ ws) (a ∷ os) x → x ⊕ (t * 2 ^ w + 2 ^ a) ≡ 0 → ⊥
      not_d x o e =
          let k : x % 2 ^ w ≡ 2 ^ a = ap (λ (z : ℕ). z % 2 ^ w) (same x (t * 2 ^ w + 2 ^ a) e) ∙ next_low in
          omega (arith, o.0)

      not_c : (x : ℕ) → Open (w ∷ ws) (a ∷ os) x → φ x ⊕ c ≡ 0 → ⊥
      unfolding rest
      not_c x o e =
          let y : ℕ = x ⊕ t * 2 ^ w in
          let oy : Open (w ∷ ws) (a ∷ os) y = open_xor (w ∷ ws) (a ∷ os) x (t * 2 ^ w) o o₀ in
          let z : y / 2 ^ w ≡ 0 = (same_0 ws (g.keep y oy).1).1 (sym (c_high x) ∙ ap (λ (z : ℕ). z / 2 ^ w) e ∙ div_0 w) in
          let l : y < 2 ^ a = rw (sym (mod-eq_of_lt (below w y z))) oy.0 in
          miss y l (g.lin x (t * 2 ^ w) ∙ ap (λ (z : ℕ). z ⊕ φ (t * 2 ^ w)) (same (φ x) c e) ∙ xor_comm c (φ (t * 2 ^ w)))

      fresh : New (w ∷ ws) (a ∷ os) φ c
      fresh = (
        t * 2 ^ w + 2 ^ a,
        suc a ∷ os,
        here free next_low (subst (Open ws os) (sym next_high) ot),
        λ x o. (
          (λ e. absurd (not_d x o e), λ e. absurd (not_c x o e)),
          subst₂ (λ (y z : ℕ). Same ws y z) (sym (d_high x)) (sym (c_high x))
              (g.keep (x ⊕ t * 2 ^ w) (open_xor (w ∷ ws) (a ∷ os) x (t * 2 ^ w) o o₀)).1,
        ),
      )

    low_step : Old (w ∷ ws) (a ∷ os) φ c ⊎ New (w ∷ ws) (a ∷ os) φ c
    low_step = go (seek φ rest (2 ^ a))
      where
        go : ((y : ℕ) × (y < 2 ^ a) × (φ y ≡ rest)) ⊎ ((y : ℕ) → y < 2 ^ a → φ y ≢ rest) → Old (w ∷ ws) (a ∷ os) φ c ⊎ New (w ∷ ws) (a ∷ os) φ c
        go (inl (y, h, e)) = inl (stay y h e)
        go (inr miss) = inr (fresh miss)

pub step : (ws os : List ℕ) → Fits ws os → (φ : ℕ → ℕ) → Good ws os φ → (c : ℕ) → c < 2 ^ total ws → Old ws os φ c ⊎ New ws os φ c
step [] [] f φ g c h = inl (0, refl, lt-one (g.fit 0) ∙ sym (lt-one h))
step [] (a ∷ os) f φ g c h = absurd f
step (w ∷ ws) [] f φ g c h = absurd f
step (w ∷ ws) (a ∷ os) f φ g c h = go (step ws os f.1 (up w φ) (good_up w a ws os φ g) (c / 2 ^ w) (shr_lt (total ws) w h))
  where
    go : Old ws os (up w φ) (c / 2 ^ w) ⊎ New ws os (up w φ) (c / 2 ^ w) → Old (w ∷ ws) (a ∷ os) φ c ⊎ New (w ∷ ws) (a ∷ os) φ c
    go (inl (t, ot, et)) = low_step w a ws os f φ g c t ot et
    go (inr n) = inr (from_above w a ws os f φ g c n)
