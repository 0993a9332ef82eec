-- A sound key with two neighbouring columns of one layer turned round is sound.
use Rattle.std.proofs.Common.{◌≡◌, ℕ, zero, suc, ◌^◌, ◌<◌, ◌≢◌, ◌⊎◌, List, [], ◌∷◌, length, get_or, sym, refl, ap, ◌∙◌, subst, inl, inr, arith}
use mathlib.Core.Logic.{∥∥₁_map}
use native.Mathlib.Decide.{dec_lt}
use Rattle.theory.specs.Words.{total, stratum}
use Rattle.theory.specs.Keys.{Sound}
use Rattle.exchange.specs.Exchanges.{turned, effect_turned}
use Rattle.exchange.proofs.Effects.{length_turned, turned_below, alias_turned}

-- ---- where column j of the turned key comes from
abbrev from : ℕ → ℕ → ℕ
from zero zero = 1
from zero (suc zero) = 0
from zero (suc (suc j)) = suc (suc j)
from (suc i) zero = 0
from (suc i) (suc j) = suc (from i j)

abbrev Comes : ℕ → ℕ → ℕ → Type 0
Comes i j k = ((j ≡ i) × (k ≡ suc i)) ⊎ (((j ≡ suc i) × (k ≡ i)) ⊎ ((j ≢ i) × (j ≢ suc i) × (k ≡ j)))

comes : (i j : ℕ) → Comes i j (from i j)
comes zero zero = inl (refl, refl)
comes zero (suc zero) = inr (inl (refl, refl))
comes zero (suc (suc j)) = inr (inr (omega arith, omega arith, refl))
comes (suc i) zero = inr (inr (omega arith, omega arith, refl))
comes (suc i) (suc j) = go (comes i j)
  where
    go : Comes i j (from i j) → Comes (suc i) (suc j) (suc (from i j))
    go (inl (x, y)) = inl (ap suc x, ap suc y)
    go (inr (inl (x, y))) = inr (inl (ap suc x, ap suc y))
    go (inr (inr (x, y, z))) = inr (inr (omega arith, omega arith, ap suc z))

column_from : (i j : ℕ) (cs : List ℕ) → suc i < length cs → get_or (turned i cs) j 0 ≡ get_or cs (from i j) 0
column_from i j [] h = absurd (omega arith)
column_from zero j (c ∷ []) h = absurd (omega arith)
column_from zero zero (c ∷ d ∷ cs) h = refl
column_from zero (suc zero) (c ∷ d ∷ cs) h = refl
column_from zero (suc (suc j)) (c ∷ d ∷ cs) h = refl
column_from (suc i) zero (c ∷ cs) h = refl
column_from (suc i) (suc j) (c ∷ cs) h = column_from i j cs (omega arith)

-- ---- sound
module _ (ws ts : List ℕ) (i : ℕ) (cs : List ℕ) (h : suc i < length cs) (alike : get_or ts i 0 ≡ get_or ts (suc i) 0) where
  at : (j : ℕ) → get_or (turned i cs) j 0 ≡ get_or cs (from i j) 0
  at j = column_from i j cs h

  inside : (j : ℕ) → j < length (turned i cs) → from i j < length cs
  inside j l = omega (arith, comes i j, length_turned i cs)

  -- its layer is that of where it comes from
  home : (j : ℕ) → get_or ts (from i j) 0 ≡ get_or ts j 0
  home j = go (comes i j)
    where
      go : Comes i j (from i j) → get_or ts (from i j) 0 ≡ get_or ts j 0
      go (inl (x, y)) = ap (λ (k : ℕ). get_or ts k 0) y ∙ sym alike ∙ ap (λ (k : ℕ). get_or ts k 0) (sym x)
      go (inr (inl (x, y))) = ap (λ (k : ℕ). get_or ts k 0) y ∙ alike ∙ ap (λ (k : ℕ). get_or ts k 0) (sym x)
      go (inr (inr (x, y, z))) = ap (λ (k : ℕ). get_or ts k 0) z

  pub sound_turned : Sound ws ts cs → Sound ws ts (turned i cs)
  sound_turned key = record {
    size = length_turned i cs ∙ key.size;
    words = λ j l. subst (λ (x : ℕ). x < 2 ^ total ws) (sym (at j)) (key.words (from i j) (inside j l));
    own = λ j l. ap (stratum ws) (at j) ∙ key.own (from i j) (inside j l) ∙ home j;
    apart = λ j k l m e. apart j k l m (dec_lt (from i j) (from i k)) (sym (at j) ∙ e ∙ at k);
    full = λ v l. ∥∥₁_map (key.full v l) (λ r. (effect_turned i r.0, subst (λ (n : ℕ). effect_turned i r.0 < 2 ^ n) (sym (length_turned i cs)) (turned_below i (length cs) r.0 h r.1), alias_turned i cs r.0 h ∙ r.2));
  }
    where
      apart : (j k : ℕ) → j < k → k < length (turned i cs) → Dec (from i j < from i k) → get_or cs (from i j) 0 ≢ get_or cs (from i k) 0
      apart j k l m (yes p) e = key.apart (from i j) (from i k) p (inside k m) e
      apart j k l m (no p) e = key.apart (from i k) (from i j) (omega (arith, comes i j, comes i k)) (inside j (omega arith)) (sym e)
