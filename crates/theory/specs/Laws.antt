-- The laws of chains and signs, for every sound key. Assumes nothing.
use Rattle.std.specs.Prelude.{◌≡◌, ℕ, ◌-◌, ◌/◌, ◌%◌, ◌^◌, ◌<◌, ◌≤◌, ◌≢◌, ◌↔◌, List, [], ◌∷◌, ◌++◌, length, Some, None, filter, Option, count_ones, nat_eq, slice_index, refl}
use Rattle.std.specs.List.{range_with_len, ContainsAt as Has}
use Rattle.theory.specs.Words.{total, alias}
use Rattle.theory.specs.Keys.{Sound}
use Rattle.theory.specs.Plots.{SoundKey}
use Rattle.theory.specs.Chains.{with_alias, chain}
use Rattle.theory.specs.Tallies.{resolution}
use Rattle.theory.specs.Signs.{Halves, PlotHalves}

-- each number is greater than the one before it
abbrev pub Rising : List ℕ → Type 0
Rising xs = (i j : ℕ) → i < j → j < length xs → slice_index xs i < slice_index xs j

-- The chain with the alias v holds exactly the effects of that alias, in rising number, 2 ^ (n - k) of them.
pub record Chained (ws cs : List ℕ) (v : ℕ) : Type 0 where
  pub holds : (e : ℕ) → Has (with_alias cs v) e ↔ ((e < 2 ^ length cs) × (alias cs e ≡ v))
  pub rising : Rising (with_alias cs v)
  pub many : length (with_alias cs v) ≡ 2 ^ (length cs - total ws)

-- Each effect goes to a unit word, and each unit word leads back to its effects.
abbrev pub ChainFact : Type 0
ChainFact =
    (ws ts cs : List ℕ) → Sound ws ts cs
    → ((e : ℕ) → alias cs e < 2 ^ total ws) × ((v : ℕ) → v < 2 ^ total ws → Chained ws cs v)

-- A defining word is an effect other than the mean whose alias is 0. Products of defining words are defining words too:
-- all of them count, not only those that generate the others.
abbrev pub Defining : List ℕ → ℕ → Type 0
Defining cs e = (e < 2 ^ length cs) × (e ≢ 0) × (alias cs e ≡ 0)

abbrev pub defining_words : List ℕ → List ℕ
defining_words cs = filter (λ e. nat_eq (alias cs e) 0) (range_with_len 1 (2 ^ length cs - 1))

-- the chain of the mean is 0 and the defining words, so there are 2 ^ (n - k) - 1 of those
abbrev pub DefiningFact : Type 0
DefiningFact =
    (ws ts cs : List ℕ) → Sound ws ts cs
    → (chain cs 0 ≡ 0 ∷ defining_words cs) × (length (defining_words cs) ≡ 2 ^ (length cs - total ws) - 1)
    × ((e : ℕ) → Has (defining_words cs) e ↔ Defining cs e)

-- r is the least length of a defining word, or none where there is no such word
abbrev pub Resolves : List ℕ → Option ℕ → Type 0
Resolves cs None = (e : ℕ) → Defining cs e → ⊥
Resolves cs (Some r) = ((e : ℕ) × Defining cs e × (count_ones e ≡ r)) × ((e : ℕ) → Defining cs e → r ≤ count_ones e)

abbrev pub ResolutionFact : Type 0
ResolutionFact = (cs : List ℕ) → Resolves cs (resolution cs)

-- The signs of two effects, and of one effect within the plots of the first layers.
abbrev pub SignFact : Type 0
SignFact =
    (us vs ts cs : List ℕ) → Sound (us ++ vs) ts cs → Halves (us ++ vs) cs × PlotHalves us vs cs

-- the one defining word of (1, 4, 5, 6) is Apq; adding the column 7 gives three, of which one is the product of the others
example_one : defining_words (1 ∷ 4 ∷ 5 ∷ 6 ∷ []) ≡ 7 ∷ []
example_one = refl

example_three : defining_words (1 ∷ 4 ∷ 5 ∷ 6 ∷ 7 ∷ []) ≡ 7 ∷ 25 ∷ 30 ∷ []
example_three = refl

-- With one subplot unit factor, every defining word has an even number of subplot factors: those from factor n1 on.
abbrev pub EvenFact : Type 0
EvenFact = (w n1 n2 : ℕ) (cs : List ℕ) → SoundKey w 1 n1 n2 cs → (e : ℕ) → Defining cs e → count_ones (e / 2 ^ n1) % 2 ≡ 0
