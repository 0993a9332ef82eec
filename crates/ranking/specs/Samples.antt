-- Two tallies, and what each of the four rankings says of the first against the second. Assumes nothing.
use Rattle.std.specs.Prelude.{◌≡◌, refl}
use Rattle.theory.specs.declared.tally.Tally.{Tally}
use Rattle.ranking.specs.declared.verdict.Verdict.TheVariants.{Better, Worse}
use Rattle.ranking.specs.Verdicts.{fewer}
use Rattle.ranking.specs.Orders.{by_score}
use Rattle.ranking.specs.Aberrations.{shortest, fewest}
use Rattle.ranking.specs.Weights.{worth, worthier}
use Rattle.ranking.specs.Penalties.{penalty}
use Rattle.ranking.specs.Piles.{both, in_turn}

-- five words of length 4
abbrev first : Tally
first = record { a3 = 0; a4 = 5; a5 = 0; a6 = 0; a7 = 0; a8 = 0; a9 = 0; a10 = 0; m1 = 2; m2 = 3; q1 = 2; q2 = 5 }

-- one word of length 3
abbrev second : Tally
second = record { a3 = 1; a4 = 0; a5 = 0; a6 = 0; a7 = 0; a8 = 0; a9 = 0; a10 = 0; m1 = 4; m2 = 2; q1 = 6; q2 = 2 }

-- 0 words of length 3 against 1
example_aberration : by_score shortest fewest first second ≡ Better
example_aberration = refl

-- at the weight 1/2 the sums are 8 and 8, the squares 22 and 14
example_weight : by_score (worth 1 2) worthier first second ≡ Worse
example_weight = refl

-- 80 against 64
example_penalty : by_score penalty fewer first second ≡ Worse
example_penalty = refl

-- the words decide
example_pile : by_score (both shortest (worth 1 2)) (in_turn fewest worthier) first second ≡ Better
example_pile = refl
