-- What is kept of keys that come one by one: the one that leads those of a kind. Assumes nothing.
use Rattle.std.specs.Prelude.{◌≡◌, ℕ, Bool, true, false, ◌⊎◌, List, [], ◌∷◌, ◌++◌, Some, None, Option, All, IsSomeAnd, refl}
use Rattle.std.proofs.lemmas.List.Elements.{All-cons, All-nil}
use Rattle.theory.specs.declared.tally.Tally.{Tally}
use Rattle.theory.specs.declared.wish.Wish.{Wish}
use Rattle.theory.specs.declared.wish.Wish.TheVariants.{Word}
use Rattle.theory.specs.Tallies.{tally}
use Rattle.opening.specs.declared.Shape.{Shape}
use Rattle.opening.specs.Shapes.{layers_of}
use Rattle.ranking.specs.declared.verdict.Verdict.{Verdict}
use Rattle.ranking.specs.declared.verdict.Verdict.TheVariants.{Better, Level, Worse}
use Rattle.ranking.specs.Verdicts.{HoldsUp}
use Rattle.ranking.specs.Orders.{by_score}
use Rattle.figures.specs.Counted.{columns_in}
use Rattle.wishes.specs.Tests.{Passes}
use Rattle.finding.specs.declared.judge.Kept.{Kept}
use Rattle.finding.specs.Listing.{In}

-- the first is better than the second
abbrev pub is_better : Verdict → Bool
is_better Better = true
is_better Level = false
is_better Worse = false

-- a score is better than that of what is kept, or nothing is kept
abbrev pub beats : {S : Type 0} → (S → S → Verdict) → Option (Kept S) → S → Bool
beats ranks None x = true
beats ranks (Some kept) x = is_better (ranks x kept.score)

-- The key is one of the list and of the kind. Of the others of that kind it is better than those before it, and not worse
-- than those behind it.
pub record Leads (Kind : List ℕ → Type 0) (ranks : List ℕ → List ℕ → Verdict) (keys : List (List ℕ)) (key : List ℕ) : Type 0 where
  pub before : List (List ℕ)
  pub behind : List (List ℕ)
  pub split : keys ≡ before ++ key ∷ behind
  pub one : Kind key
  pub first : (other : List ℕ) → In other before → Kind other → ranks key other ≡ Better
  pub best : (other : List ℕ) → In other behind → Kind other → HoldsUp (ranks key other)

-- what is kept of the keys that came: the one that leads those of the kind, with its score; nothing where none is of it
abbrev pub Keeps : {S : Type 0} → (List ℕ → Type 0) → (List ℕ → S) → (S → S → Verdict) → List (List ℕ) → Option (Kept S) → Type 0
Keeps Kind score ranks keys None = (key : List ℕ) → In key keys → Kind key → ⊥
Keeps Kind score ranks keys (Some kept) = Leads Kind (by_score score ranks) keys (columns_in kept.counts) × (kept.score ≡ score (columns_in kept.counts))

-- A key and its score come in place of what was kept where the key is of the kind; else what was kept stays.
abbrev pub Takes : {S : Type 0} → (List ℕ → Type 0) → List ℕ → S → Option (Kept S) → Option (Kept S) → Type 0
Takes Kind key score old new = ((Kind key → ⊥) × (new ≡ old)) ⊎ (Kind key × IsSomeAnd new (λ kept. (columns_in kept.counts ≡ key) × (kept.score ≡ score)))

-- the key meets each wish that is one of its factors
abbrev pub PassesAll : List ℕ → List Wish → List ℕ → Type 0
PassesAll ws wishes key = All (Passes ws key) wishes

-- what is kept of the keys of a shape that pass, by the scores of their tallies
abbrev pub KeepsPassing : {S : Type 0} → Shape → List Wish → (Tally → S) → (S → S → Verdict) → List (List ℕ) → Option (Kept S) → Type 0
KeepsPassing shape wishes score ranks keys best = Keeps (PassesAll (layers_of shape) wishes) (λ (key : List ℕ). score (tally (layers_of shape) key)) ranks keys best

-- Apq, number 7, is a defining word of (1, 4, 5, 6), as is wished
example_passes : PassesAll (2 ∷ 1 ∷ []) (Word 7 ∷ []) (1 ∷ 4 ∷ 5 ∷ 6 ∷ [])
example_passes =
    All-cons (Passes (2 ∷ 1 ∷ []) (1 ∷ 4 ∷ 5 ∷ 6 ∷ [])) (Word 7) [] (λ formed. refl) (All-nil (Passes (2 ∷ 1 ∷ []) (1 ∷ 4 ∷ 5 ∷ 6 ∷ [])))
