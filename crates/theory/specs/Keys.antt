-- Keys: sound, twins, standard. Assumes nothing.
--
-- A key gives each factor a unit word, its column; it is the list of the columns in factor order. The list ts has the
-- layer of each factor, counted from 1; `homes` makes it of how many factors each layer has.
use Rattle.std.specs.Prelude.{◌≡◌, ℕ, suc, ◌/◌, ◌%◌, ◌^◌, ◌<◌, ◌≢◌, ◌↔◌, List, [], ◌∷◌, ◌++◌, length, replicate, slice_index, refl}
use Rattle.theory.specs.Words.{total, alias, stratum}

-- the layer of each factor, where the first of the counts is that of layer l
abbrev pub homes_from : ℕ → List ℕ → List ℕ
homes_from l [] = []
homes_from l (n ∷ ns) = replicate n l ++ homes_from (suc l) ns

abbrev pub homes : List ℕ → List ℕ
homes ns = homes_from 1 ns

-- one whole-plot factor and three subplot factors
example_homes : homes (1 ∷ 3 ∷ []) ≡ 1 ∷ 2 ∷ 2 ∷ 2 ∷ []
example_homes = refl

-- ---- sound

-- every column is a unit word
abbrev pub Words : List ℕ → List ℕ → Type 0
Words ws cs = (i : ℕ) → i < length cs → slice_index cs i < 2 ^ total ws

-- every column lies in the layer of its factor: a whole-plot column is not 0 and has no subplot unit factor, a subplot
-- column has one
abbrev pub Own : List ℕ → List ℕ → List ℕ → Type 0
Own ws ts cs = (i : ℕ) → i < length cs → stratum ws (slice_index cs i) ≡ slice_index ts i

-- no two columns are equal
abbrev pub Apart : List ℕ → Type 0
Apart cs = (i j : ℕ) → i < j → j < length cs → slice_index cs i ≢ slice_index cs j

-- every unit word is the alias of some effect
abbrev pub Full : List ℕ → List ℕ → Type 0
Full ws cs = (v : ℕ) → v < 2 ^ total ws → ∥ ((e : ℕ) × (e < 2 ^ length cs) × (alias cs e ≡ v)) ∥₁

pub record Sound (ws ts cs : List ℕ) : Type 0 where
  pub size : length cs ≡ length ts
  pub words : Words ws cs
  pub own : Own ws ts cs
  pub apart : Apart cs
  pub full : Full ws cs

-- ---- twins

-- Two sound keys are twins when every effect has the same stratum in both, and two effects share a chain in both or in
-- neither. The effects of n factors are the numbers below 2 ^ n.
pub record Twins (ws : List ℕ) (n : ℕ) (cs ds : List ℕ) : Type 0 where
  pub strata : (e : ℕ) → e < 2 ^ n → stratum ws (alias cs e) ≡ stratum ws (alias ds e)
  pub chains : (e f : ℕ) → e < 2 ^ n → f < 2 ^ n → (alias cs e ≡ alias cs f) ↔ (alias ds e ≡ alias ds f)

-- ---- standard

-- the word v has open unit factors only; the list os has how many of each layer are open, always the first ones
abbrev pub Open : List ℕ → List ℕ → ℕ → Type 0
Open [] [] v = v ≡ 0
Open [] (a ∷ os) v = ⊥
Open (w ∷ ws) [] v = ⊥
Open (w ∷ ws) (a ∷ os) v = (v % 2 ^ w < 2 ^ a) × Open ws os (v / 2 ^ w)

-- The column c is just the next unopened unit factor of some layer, with any open ones of the layers above it or none;
-- the last list is what is open then.
pub data Next : List ℕ → List ℕ → ℕ → List ℕ → Type 0 where
  here : {w a : ℕ} {ws os : List ℕ} {c : ℕ} → a < w → c % 2 ^ w ≡ 2 ^ a → Open ws os (c / 2 ^ w) → Next (w ∷ ws) (a ∷ os) c (suc a ∷ os)
  above : {w a : ℕ} {ws os ps : List ℕ} {c : ℕ} → c % 2 ^ w ≡ 0 → Next ws os (c / 2 ^ w) ps → Next (w ∷ ws) (a ∷ os) c (a ∷ ps)

-- reading the columns in factor order: each has open unit factors only, or opens one
pub data Reads (ws : List ℕ) : List ℕ → List ℕ → Type 0 where
  done : {os : List ℕ} → Reads ws os []
  stays : {os cs : List ℕ} {c : ℕ} → Open ws os c → Reads ws os cs → Reads ws os (c ∷ cs)
  opens : {os ps cs : List ℕ} {c : ℕ} → Next ws os c ps → Reads ws ps cs → Reads ws os (c ∷ cs)

-- nothing is open
abbrev pub none : List ℕ → List ℕ
none [] = []
none (w ∷ ws) = 0 ∷ none ws

-- A standard key is sound, and is read with nothing open at the start.
pub record Standard (ws ts cs : List ℕ) : Type 0 where
  pub sound : Sound ws ts cs
  pub reads : Reads ws (none ws) cs
