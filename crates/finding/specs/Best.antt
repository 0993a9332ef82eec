-- The first best key, keys that meet wishes, and the best of all sound keys that do. Assumes nothing.
use Rattle.std.specs.Prelude.{◌≡◌, ℕ, List, [], ◌∷◌, Option, MatchOption, All, refl}
use Rattle.std.proofs.lemmas.List.Elements.{All-cons, All-nil}
use Rattle.std.specs.Int.Count.{ones, ones_in}
use Rattle.theory.specs.declared.tally.Tally.{Tally}
use Rattle.theory.specs.declared.wish.Wish.{Wish}
use Rattle.theory.specs.declared.wish.Wish.TheVariants.{Fine, Word}
use Rattle.theory.specs.Keys.{Sound}
use Rattle.theory.specs.Tallies.{tally}
use Rattle.theory.specs.Wishes.{Meets}
use Rattle.opening.specs.declared.Shape.{Shape}
use Rattle.opening.specs.Shapes.{layers_of, homes_of}
use Rattle.ranking.specs.declared.verdict.Verdict.{Verdict}
use Rattle.ranking.specs.declared.verdict.Verdict.TheVariants.{Better, Level}
use Rattle.ranking.specs.Verdicts.{HoldsUp, fewer}
use Rattle.ranking.specs.Orders.{by_score}
use Rattle.finding.specs.Listing.{Before, StandardIn}

-- how a ranking ranks keys of a shape: by the scores of their tallies
abbrev pub by_tally : {S : Type 0} → Shape → (Tally → S) → (S → S → Verdict) → List ℕ → List ℕ → Verdict
by_tally shape score ranks = by_score (λ (key : List ℕ). score (tally (layers_of shape) key)) ranks

-- The first best of a kind of keys: none of that kind ranks better, and it ranks better than each of that kind that
-- comes before it in dictionary order. So each other one that is level with it comes later.
pub record FirstBest (Kind : List ℕ → Type 0) (ranks : List ℕ → List ℕ → Verdict) (key : List ℕ) : Type 0 where
  pub one : Kind key
  pub best : (other : List ℕ) → Kind other → HoldsUp (ranks key other)
  pub first : (other : List ℕ) → Kind other → Before other key → ranks key other ≡ Better

-- What a search for it answers: it, or none where there is no key of that kind. `columns` takes the answer to its key.
abbrev pub Finding : {X : Type 0} → (X → List ℕ) → (List ℕ → Type 0) → (List ℕ → List ℕ → Verdict) → Option X → Type 0
Finding columns Kind ranks r = MatchOption r ((key : List ℕ) → Kind key → ⊥) (λ x. FirstBest Kind ranks (columns x))

-- ---- wishes

-- the key meets every wish of the list, where ws has how many unit factors each layer has
abbrev pub MeetsAll : List ℕ → List ℕ → List Wish → Type 0
MeetsAll ws key wishes = All (Meets ws key) wishes

-- the standard keys of a shape that meet the wishes
abbrev pub Wished : Shape → List Wish → List ℕ → Type 0
Wished shape wishes key = StandardIn shape key × MeetsAll (layers_of shape) key wishes

-- The best of all sound keys of a shape that meet the wishes, standard or not: every other one ranks level with it or
-- worse.
pub record BestSound (shape : Shape) (wishes : List Wish) (ranks : List ℕ → List ℕ → Verdict) (key : List ℕ) : Type 0 where
  pub sound : Sound (layers_of shape) (homes_of shape) key
  pub meets : MeetsAll (layers_of shape) key wishes
  pub best : (other : List ℕ) → Sound (layers_of shape) (homes_of shape) other → MeetsAll (layers_of shape) other wishes → HoldsUp (ranks key other)

-- no sound key of the shape meets the wishes
abbrev pub NoSound : Shape → List Wish → Type 0
NoSound shape wishes = (key : List ℕ) → Sound (layers_of shape) (homes_of shape) key → MeetsAll (layers_of shape) key wishes → ⊥

-- what a search among all sound keys answers: a best one, or none where no sound key meets the wishes
abbrev pub FindingSound : {X : Type 0} → (X → List ℕ) → Shape → List Wish → (List ℕ → List ℕ → Verdict) → Option X → Type 0
FindingSound columns shape wishes ranks r = MatchOption r (NoSound shape wishes) (λ x. BestSound shape wishes ranks (columns x))

-- Two of the standard keys with 2 and 1 unit factors, 1 and 3 factors: by their defining words of length 3 they are level,
-- so that the second is not the first best.
example_level : by_score (λ (key : List ℕ). (tally (2 ∷ 1 ∷ []) key).a3) fewer (1 ∷ 4 ∷ 5 ∷ 6 ∷ []) (1 ∷ 4 ∷ 6 ∷ 5 ∷ []) ≡ Level
unfolding tally ones ones_in
example_level = refl

-- the first of them meets the wishes that Apq be a defining word and that r be fine
example_meets : MeetsAll (2 ∷ 1 ∷ []) (1 ∷ 4 ∷ 5 ∷ 6 ∷ []) (Word 7 ∷ Fine 8 ∷ [])
example_meets =
    All-cons (Meets (2 ∷ 1 ∷ []) (1 ∷ 4 ∷ 5 ∷ 6 ∷ [])) (Word 7) (Fine 8 ∷ []) refl (All-cons (Meets (2 ∷ 1 ∷ []) (1 ∷ 4 ∷ 5 ∷ 6 ∷ [])) (Fine 8) [] refl (All-nil (Meets (2 ∷ 1 ∷ []) (1 ∷ 4 ∷ 5 ∷ 6 ∷ []))))
