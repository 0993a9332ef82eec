-- The same for two layers, word for word: w whole-plot unit factors W, bits 0 to w - 1, and s subplot unit factors S,
-- bits w to w + s - 1; n1 whole-plot factors, then n2 subplot factors. Assumes nothing.
use Rattle.std.specs.Prelude.{◌≡◌, ℕ, suc, ◌+◌, ◌/◌, ◌%◌, ◌^◌, ◌<◌, ◌≤◌, ◌≢◌, ◌↔◌, List, [], ◌∷◌, length, slice_index}
use Rattle.theory.specs.Words.{alias}
use Rattle.theory.specs.Keys.{homes, Sound, Standard}

pub record SoundKey (w s n1 n2 : ℕ) (cs : List ℕ) : Type 0 where
  pub size : length cs ≡ n1 + n2
  pub words : (i : ℕ) → i < n1 + n2 → slice_index cs i < 2 ^ (w + s)
  -- a whole-plot column is not 0 and has no S
  pub whole : (i : ℕ) → i < n1 → (slice_index cs i ≢ 0) × (slice_index cs i < 2 ^ w)
  -- a subplot column has an S
  pub sub : (i : ℕ) → n1 ≤ i → i < n1 + n2 → 2 ^ w ≤ slice_index cs i
  pub apart : (i j : ℕ) → i < j → j < n1 + n2 → slice_index cs i ≢ slice_index cs j
  pub full : (v : ℕ) → v < 2 ^ (w + s) → ∥ ((e : ℕ) × (e < 2 ^ (n1 + n2)) × (alias cs e ≡ v)) ∥₁

-- the columns from one on, where W1 to Wa and S1 to Sb are open
pub data Read (w s : ℕ) : ℕ → ℕ → List ℕ → Type 0 where
  end : {a b : ℕ} → Read w s a b []
  -- just the next unopened S, which opens it
  opens_s : {a b c : ℕ} {cs : List ℕ} → b < s → c ≡ 2 ^ (w + b) → Read w s a (suc b) cs → Read w s a b (c ∷ cs)
  -- any open S's, or none, with just the next unopened W, which opens it
  opens_w : {a b c : ℕ} {cs : List ℕ} → a < w → c % 2 ^ w ≡ 2 ^ a → c / 2 ^ w < 2 ^ b → Read w s (suc a) b cs → Read w s a b (c ∷ cs)
  -- open unit factors only
  opens_none : {a b c : ℕ} {cs : List ℕ} → c % 2 ^ w < 2 ^ a → c / 2 ^ w < 2 ^ b → Read w s a b cs → Read w s a b (c ∷ cs)

pub record StandardKey (w s n1 n2 : ℕ) (cs : List ℕ) : Type 0 where
  pub sound : SoundKey w s n1 n2 cs
  pub read : Read w s 0 0 cs

-- Sound and standard over lists of layers mean this where there are two.
abbrev pub TwoLayers : Type 0
TwoLayers =
    (w s n1 n2 : ℕ) (cs : List ℕ)
    → (Sound (w ∷ s ∷ []) (homes (n1 ∷ n2 ∷ [])) cs ↔ SoundKey w s n1 n2 cs)
    × (Standard (w ∷ s ∷ []) (homes (n1 ∷ n2 ∷ [])) cs ↔ StandardKey w s n1 n2 cs)
