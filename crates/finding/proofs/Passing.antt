-- Keys that fail no standing wish, and what is kept of them.
use Rattle.std.proofs.Common.{◌≡◌, ℕ, Bool, true, ◌↔◌, List, ◌++◌, length, take, All, Some, None, MatchBool, MatchOption, Option, sym, ap, ◌∙◌, subst, arith, length-append}
use lib.Seq.{take-append_seam}
use Rattle.std.proofs.lemmas.List.Elements.{All-weaker}
use Rattle.std.proofs.lemmas.Bool.Decides.{when_true}
use Rattle.theory.specs.declared.tally.Tally.{Tally}
use Rattle.theory.specs.declared.wish.Wish.{Wish}
use Rattle.theory.specs.Tallies.{tally}
use Rattle.theory.specs.Wishes.{Formed, Meets}
use Rattle.theory.proofs.Homes.{length_homes}
use Rattle.opening.specs.declared.Shape.{Shape}
use Rattle.opening.specs.Shapes.{layers_of, factors_of}
use Rattle.ranking.specs.declared.verdict.Verdict.{Verdict}
use Rattle.ranking.specs.Orders.{Order}
use Rattle.ranking.specs.OrdersLemmas.{through}
use Rattle.figures.specs.declared.counts.Counts.{Counts}
use Rattle.figures.specs.Counted.{columns_in}
use Rattle.wishes.specs.declared.standing.Standing.{Standing}
use Rattle.wishes.specs.Lists.{all_formed}
use Rattle.wishes.specs.Standings.{wishes_in}
use Rattle.wishes.specs.Tests.{Passes, SomeFails}
use Rattle.wishes.proofs.Listed.{all_formed_lem}
use Rattle.wishes.proofs.Failing.{fails_for_all, none_fails_met}
use Rattle.finding.specs.declared.judge.Kept.{Kept}
use Rattle.finding.specs.Walks.{standard_keys}
use Rattle.finding.specs.Listing.{In, Begins, StandardIn}
use Rattle.finding.specs.Best.{by_tally, Finding, Wished}
use Rattle.wishes.proofs.Turning.{formed_more}
use Rattle.finding.specs.Leading.{PassesAll, KeepsPassing}
use Rattle.finding.proofs.Standard.{listing_fact}
use Rattle.finding.proofs.Judging.{leader_is_best, none_listed, keeps_on}

-- no key passes that begins with columns that fail a wish
begins_fails : (ws cs : List ℕ) (wishes : List Wish) → SomeFails ws cs wishes → (key : List ℕ) → Begins cs key → PassesAll ws wishes key → ⊥
begins_fails ws cs wishes (k, wish, within, is, fails) key (more, e) pass =
    fails_for_all ws cs wish fails key (ap (take (length cs)) e ∙ take-append_seam cs more)
    (subst (Passes ws key) is (pass k wish within) (formed_more (omega (arith, ap length e, length-append cs more)) wish fails.0))

-- the standing wishes are tested on columns; the judge has had the same since it began
module _ (counts : Counts) (first now : Standing) (same : now ≡ first) (r : Bool)
    (test : MatchBool r (SomeFails (layers_of counts.shape) (columns_in counts) (wishes_in now)) (All (Passes (layers_of counts.shape) (columns_in counts)) (wishes_in now))) where
  -- they fail one: so does each key that begins with them
  none_passes : r ≡ true → (key : List ℕ) → Begins (columns_in counts) key → PassesAll (layers_of counts.shape) (wishes_in first) key → ⊥
  none_passes t key begin =
      begins_fails (layers_of counts.shape) (columns_in counts) (wishes_in first)
      (subst (λ (s : Standing). SomeFails (layers_of counts.shape) (columns_in counts) (wishes_in s)) same (when_true _ _ t test)) key begin

  pub keep_left : {S : Type 0} (score : Tally → S) (ranks : S → S → Verdict) → Order ranks → (keys more : List (List ℕ)) (best : Option (Kept S)) → KeepsPassing counts.shape (wishes_in first) score ranks keys best
      → r ≡ true → ((key : List ℕ) → In key more → Begins (columns_in counts) key) → KeepsPassing counts.shape (wishes_in first) score ranks (keys ++ more) best
  keep_left score ranks order keys more best was t begin =
      keeps_on (PassesAll (layers_of counts.shape) (wishes_in first)) (λ (key : List ℕ). score (tally (layers_of counts.shape) key)) ranks order keys best was more
      (λ key i. none_passes t key (begin key i))

-- ---- the standard keys that pass are those that meet the wishes
pub sought : (shape : Shape) (wishes : List Wish) → all_formed (factors_of shape) wishes ≡ true → (key : List ℕ) → Wished shape wishes key ↔ (StandardIn shape key × PassesAll (layers_of shape) wishes key)
sought shape wishes formed key = (
  λ h. (h.0, All-weaker (Meets (layers_of shape) key) (Passes (layers_of shape) key) (λ _ met _. met) wishes h.1),
  λ h.
      let size : length key ≡ factors_of shape = h.0.sound.size ∙ length_homes shape.n1 shape.n2 in
      (h.0, none_fails_met (layers_of shape) key wishes (subst (λ (n : ℕ). All (Formed n) wishes) (sym size) ((all_formed_lem (factors_of shape) wishes).0 formed)) h.1),
)

-- ---- the end of the walk
module _ (standing : Standing) {S : Type 0} (score : Tally → S) (ranks : S → S → Verdict) (order : Order ranks) where
  abbrev KeepsIn : Shape → Option (Kept S) → Type 0
  KeepsIn shape best = KeepsPassing shape (wishes_in standing) score ranks (standard_keys shape) best

  abbrev Sought : List ℕ → Type 0
  Sought = Wished standing.shape (wishes_in standing)

  kept_best : (best : Option (Kept S)) → KeepsIn standing.shape best → Finding (λ kept. columns_in kept.counts) Sought (by_tally standing.shape score ranks) best
  kept_best None none = none_listed (standard_keys standing.shape) (listing_fact standing.shape) (sought standing.shape (wishes_in standing) standing.formed) none
  kept_best (Some kept) keeps =
      leader_is_best (PassesAll (layers_of standing.shape) (wishes_in standing)) (through (λ (key : List ℕ). score (tally (layers_of standing.shape) key)) order)
      (standard_keys standing.shape) (listing_fact standing.shape) (sought standing.shape (wishes_in standing) standing.formed) (columns_in kept.counts) keeps.0

  -- of all standard keys of the shape that the code read
  pub found : (read : Shape) → read ≡ standing.shape → (best : Option (Kept S)) → KeepsIn read best → Finding (λ kept. columns_in kept.counts) Sought (by_tally standing.shape score ranks) best
  found read same best keeps = kept_best best (subst (λ (shape : Shape). KeepsIn shape best) same keeps)

  -- and its columns, as they are taken of what is kept
  pub found_columns : (read : Shape) → read ≡ standing.shape → (best : Option (Kept S)) → KeepsIn read best
      → (Told : Kept S → Type 0) (columns : Option Counts) → MatchOption best (columns ≡ None) Told → ((kept : Kept S) → Told kept → columns ≡ Some kept.counts)
      → Finding columns_in Sought (by_tally standing.shape score ranks) columns
  found_columns read same None keeps Told columns none told = rw none (found read same None keeps)
  found_columns read same (Some kept) keeps Told columns some told = rw (told kept some) (found read same (Some kept) keeps)
