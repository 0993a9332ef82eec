-- The first layers, and the strata that lie in them.
use Rattle.std.proofs.Common.{◌≡◌, ℕ, zero, suc, ◌+◌, ◌/◌, ◌^◌, ◌<◌, ◌≤◌, List, [], ◌∷◌, ◌++◌, length, sym, refl, ap, ◌∙◌, add_comm, suc-ne-zero, div-one, arith, shr-shr, shr_lt}
use lib.Arith.{lt-one}
use Rattle.theory.specs.Words.{total, stratum}
use Rattle.theory.proofs.Words.{div_0}
use Rattle.theory.proofs.Opens.{stratum_suc}

pub total_append : (us vs : List ℕ) → total (us ++ vs) ≡ total vs + total us
total_append [] vs = omega arith
total_append (w ∷ us) vs = let ih = total_append us vs in omega arith

stratum_of_0 : (ws : List ℕ) → stratum ws 0 ≡ 0
stratum_of_0 [] = refl
stratum_of_0 (w ∷ ws) = refl

-- only the word 0 is of the mean
pub stratum_0 : (ws : List ℕ) (a : ℕ) → a < 2 ^ total ws → stratum ws a ≡ 0 → a ≡ 0
stratum_0 [] a h e = lt-one h
stratum_0 (w ∷ ws) zero h e = refl
stratum_0 (w ∷ ws) (suc a) h e = absurd (suc-ne-zero (stratum ws (suc a / 2 ^ w)) (sym (stratum_suc w ws a) ∙ e))

-- the part of a word above the first layers, layer by layer
above_first : (w : ℕ) (us : List ℕ) (a : ℕ) → a / 2 ^ w / 2 ^ total us ≡ a / 2 ^ total (w ∷ us)
above_first w us a = shr-shr a w (total us) ∙ ap (λ (n : ℕ). a / 2 ^ n) (add_comm w (total us))

-- a word of the first layers has nothing above them
pub stratum_low : (us vs : List ℕ) (a : ℕ) → a < 2 ^ total (us ++ vs) → stratum (us ++ vs) a ≤ length us → a / 2 ^ total us ≡ 0
stratum_low [] vs a h l = div-one a ∙ stratum_0 vs a h (omega arith)
stratum_low (w ∷ us) vs zero h l = div_0 (total (w ∷ us))
stratum_low (w ∷ us) vs (suc a) h l =
    sym (above_first w us (suc a))
    ∙ stratum_low us vs (suc a / 2 ^ w) (shr_lt (total (us ++ vs)) w h) (omega (arith, stratum_suc w (us ++ vs) a))

-- and the other way round
pub stratum_le : (us vs : List ℕ) (a : ℕ) → a / 2 ^ total us ≡ 0 → stratum (us ++ vs) a ≤ length us
stratum_le [] vs a e = omega (arith, ap (stratum vs) (sym (div-one a) ∙ e), stratum_of_0 vs)
stratum_le (w ∷ us) vs zero e = omega arith
stratum_le (w ∷ us) vs (suc a) e =
    omega (arith, stratum_suc w (us ++ vs) a, stratum_le us vs (suc a / 2 ^ w) (above_first w us (suc a) ∙ e))
