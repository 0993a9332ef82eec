-- A ranking that is one of four: its scores and its verdicts are those of the one that it holds. Assumes nothing.
use Rattle.std.specs.Prelude.{◌≡◌, ℕ, refl}
use Rattle.theory.specs.declared.tally.Tally.{Tally}
use Rattle.ranking.specs.declared.verdict.Verdict.{Verdict}
use Rattle.ranking.specs.declared.verdict.Verdict.TheVariants.{Better, Worse}
use Rattle.ranking.specs.declared.aberration.WordCounts.{WordCounts}
use Rattle.ranking.specs.declared.weight.Worth.{Worth}
use Rattle.ranking.specs.declared.choice.Choice.{Choice}
use Rattle.ranking.specs.declared.choice.Choice.TheVariants.{Aberration, Weight, Penalty, Pile}
use Rattle.ranking.specs.declared.choice.ChoiceScore.{ChoiceScore}
use Rattle.ranking.specs.declared.choice.ChoiceScore.TheVariants.{Words as OfWords, Worth as OfWorth, Sum, Pair}
use Rattle.ranking.specs.Verdicts.{fewer}
use Rattle.ranking.specs.Aberrations.{shortest, fewest}
use Rattle.ranking.specs.Weights.{worth, worthier}
use Rattle.ranking.specs.Penalties.{penalty}
use Rattle.ranking.specs.Piles.{both, in_turn}

-- no defining words
abbrev no_words : WordCounts
no_words = record { a3 = 0; a4 = 0; a5 = 0; a6 = 0 }

-- worth nothing
abbrev no_worth : Worth
no_worth = record { sum = 0; squares = 0 }

-- ---- A score read as one of a single kind: itself where it is of that kind, otherwise zeros. So any two are ordered.

-- as the counts of words of aberration
abbrev pub as_words : ChoiceScore → WordCounts
as_words (OfWords x) = x
as_words (OfWorth _) = no_words
as_words (Sum _) = no_words
as_words (Pair _) = no_words

-- as what a weight makes of a tally
abbrev pub as_worth : ChoiceScore → Worth
as_worth (OfWords _) = no_worth
as_worth (OfWorth x) = x
as_worth (Sum _) = no_worth
as_worth (Pair _) = no_worth

-- as a penalty
abbrev pub as_sum : ChoiceScore → ℕ
as_sum (OfWords _) = 0
as_sum (OfWorth _) = 0
as_sum (Sum x) = x
as_sum (Pair _) = 0

-- as a score of the pile
abbrev pub as_pair : ChoiceScore → WordCounts × Worth
as_pair (OfWords _) = (no_words, no_worth)
as_pair (OfWorth _) = (no_words, no_worth)
as_pair (Sum _) = (no_words, no_worth)
as_pair (Pair x) = x

-- ---- the ranking

-- the score of a tally by the ranking that is held
abbrev pub chosen_score : Choice → Tally → ChoiceScore
chosen_score (Aberration _) t = OfWords (shortest t)
chosen_score (Weight w) t = OfWorth (worth w.a w.b t)
chosen_score (Penalty _) t = Sum (penalty t)
chosen_score (Pile p) t = Pair (both shortest (worth p.second.a p.second.b) t)

-- the verdict of the ranking that is held, each score read as one of its kind
abbrev pub chosen_verdict : Choice → ChoiceScore → ChoiceScore → Verdict
chosen_verdict (Aberration _) x y = fewest (as_words x) (as_words y)
chosen_verdict (Weight _) x y = worthier (as_worth x) (as_worth y)
chosen_verdict (Penalty _) x y = fewer (as_sum x) (as_sum y)
chosen_verdict (Pile _) x y = in_turn fewest worthier (as_pair x) (as_pair y)

-- a penalty of 64 against one of 80, and against a score of another kind, which is read as 0
example_sums : chosen_verdict (Penalty (record {})) (Sum 64) (Sum 80) ≡ Better
example_sums = refl

example_kinds : chosen_verdict (Penalty (record {})) (Sum 64) (OfWords no_words) ≡ Worse
example_kinds = refl
