-- The worked samples: what the definitions say of three small trials. Assumes nothing.
--
-- Bit i of an effect is factor i. In the first sample the factors A, p, q and r are 0, 1, 2 and 3, so Apq is 1 + 2 + 4.
use Rattle.std.specs.Prelude.{◌≡◌, ℕ, ◌↔◌, List, [], ◌∷◌, None, refl}
use Rattle.std.specs.List.{AllByRecursion}
use Rattle.theory.specs.declared.wish.Wish.{Wish}
use Rattle.theory.specs.declared.wish.Wish.TheVariants.{Clear, Fine, Word, Least}
use Rattle.theory.specs.Words.{alias, stratum}
use Rattle.theory.specs.Keys.{homes, Sound, Twins, Standard}
use Rattle.theory.specs.Laws.{defining_words}
use Rattle.theory.specs.Tallies.{tally, resolution}
use Rattle.theory.specs.Wishes.{Meets}
use Rattle.finding.specs.Listing.{In}

-- of the standard keys exactly these are left, where each of the wishes must be met
abbrev pub Left : (ws ts : List ℕ) → List Wish → List (List ℕ) → Type 0
Left ws ts wishes keys = (key : List ℕ) → (Standard ws ts key × AllByRecursion (Meets ws key) wishes) ↔ In key keys

-- ---- 2 1 1 3: two whole-plot and one subplot unit factors, one whole-plot factor A, three subplot factors p, q, r

-- how many unit factors each layer has
abbrev pub layers : List ℕ
layers = 2 ∷ 1 ∷ []

-- the layer of each factor
abbrev pub factors : List ℕ
factors = homes (1 ∷ 3 ∷ [])

-- the effects that the sample speaks of
abbrev pub Ap : ℕ
Ap = 3

abbrev pub Aq : ℕ
Aq = 5

abbrev pub pq : ℕ
pq = 6

abbrev pub Apq : ℕ
Apq = 7

abbrev pub Ar : ℕ
Ar = 9

abbrev pub pr : ℕ
pr = 10

abbrev pub Apr : ℕ
Apr = 11

-- the keys that the sample speaks of: three standard ones, and one that is not
abbrev pub first : List ℕ
first = 1 ∷ 4 ∷ 5 ∷ 6 ∷ []

abbrev pub second : List ℕ
second = 1 ∷ 4 ∷ 6 ∷ 5 ∷ []

abbrev pub third : List ℕ
third = 1 ∷ 4 ∷ 6 ∷ 7 ∷ []

abbrev pub other : List ℕ
other = 1 ∷ 6 ∷ 4 ∷ 5 ∷ []

-- what the sample says of them; the effects are read under the first key
pub record OneAndThree : Type 0 where
  -- these three are the standard keys, and there is no other
  pub standard : (key : List ℕ) → Standard layers factors key ↔ In key (first ∷ second ∷ third ∷ [])
  -- the one defining word of the first is Apq
  pub defining : defining_words first ≡ Apq ∷ []
  -- its tally: one word of length 3; of the interactions whose chain holds no main effect two are whole-plot and one is
  -- subplot, each in a chain of its own
  pub counts : tally layers first ≡ record { a3 = 1; a4 = 0; a5 = 0; a6 = 0; a7 = 0; a8 = 0; a9 = 0; a10 = 0; m1 = 2; m2 = 1; q1 = 2; q2 = 1 }
  -- Ar has alias 7 there and is a subplot effect
  pub sub : (alias first Ar ≡ 7) × (stratum layers (alias first Ar) ≡ 2)
  -- pr has alias 2 there and is a whole-plot effect
  pub whole : (alias first pr ≡ 2) × (stratum layers (alias first pr) ≡ 1)
  -- where Ap must be clear, only the third is left
  pub clear : Left layers factors (Clear Ap ∷ []) (third ∷ [])
  -- where Aq must be clear as well, none is left
  pub both_clear : Left layers factors (Clear Ap ∷ Clear Aq ∷ []) []
  -- where pq must be of the subplot stratum, none is left
  pub fine : Left layers factors (Fine pq ∷ []) []
  -- where Apr must be a defining word, only the second is left
  pub word : Left layers factors (Word Apr ∷ []) (second ∷ [])
  -- (1, 6, 4, 5) is sound
  pub sound : Sound layers factors other
  -- the third is its standard twin
  pub twin : Standard layers factors third × Twins layers 4 other third

-- ---- 1 1 1 1: one unit factor and one factor of each kind

pub record OneAndOne : Type 0 where
  -- the one standard key is (1, 2)
  pub standard : (key : List ℕ) → Standard (1 ∷ 1 ∷ []) (homes (1 ∷ 1 ∷ [])) key ↔ In key ((1 ∷ 2 ∷ []) ∷ [])
  -- it has no resolution, since it has no defining word
  pub unresolved : resolution (1 ∷ 2 ∷ []) ≡ None
  -- so none is shorter than 10, and that wish is met
  pub least : Meets (1 ∷ 1 ∷ []) (1 ∷ 2 ∷ []) (Least 10)

-- ---- 1 1 2 1: one unit factor of each kind, two whole-plot factors and one subplot factor

-- there is no sound key: one whole-plot unit factor makes no two different columns
abbrev pub NoTwoAndOne : Type 0
NoTwoAndOne = (key : List ℕ) → Sound (1 ∷ 1 ∷ []) (homes (2 ∷ 1 ∷ [])) key → ⊥

-- ---- the three samples together

pub record SampleFact : Type 0 where
  -- 2 1 1 3
  pub one_and_three : OneAndThree
  -- 1 1 1 1
  pub one_and_one : OneAndOne
  -- 1 1 2 1
  pub two_and_one : NoTwoAndOne

-- the product of the columns 1, 4 and 5 of A, p and q is 0
example_word : alias first Apq ≡ 0
example_word = refl
