-- What a ranking line says: `rank aberration`. Assumes nothing.
use Rattle.std.specs.Prelude.{◌≡◌, ℕ, List, [], ◌∷◌, Ok, Err, codes, Result, refl}
use Rattle.sheet.specs.Asks.{place_at, fixed_at}
use Rattle.sheet.specs.Cuts.{words, placed}
use Rattle.sheet.specs.Faults.{and_then}
use Rattle.sheet.specs.declared.fault.WordFault.TheVariants.{Unknown}
use Rattle.sheet.specs.declared.fault.LineFault.{LineFault}
use Rattle.sheet.specs.declared.fault.LineFault.TheVariants.{Word, Count}
use Rattle.lines.specs.declared.ranking.RankingName.{RankingName}
use Rattle.lines.specs.declared.ranking.RankingName.TheVariants.{Aberration}

-- the words after `rank aberration`: no fixed word may stand there
abbrev pub after_aberration : ℕ → List (ℕ × List ℕ) → Result RankingName LineFault
after_aberration line [] = Ok Aberration
after_aberration line (w ∷ ws) = Err (Word (Unknown (place_at line w)))

-- the words after `rank`
abbrev pub after_rank : ℕ → List (ℕ × List ℕ) → Result RankingName LineFault
after_rank line [] = Err (Count line)
after_rank line (r ∷ ws) = and_then Word (fixed_at (codes "aberration") line r) (λ _. after_aberration line ws)

-- first the fixed words that are present, then how many words there are
abbrev pub ranks : ℕ → List (ℕ × List ℕ) → Result RankingName LineFault
ranks line [] = Err (Count line)
ranks line (h ∷ ws) = and_then Word (fixed_at (codes "rank") line h) (λ _. after_rank line ws)

example_ranks : ranks 2 (placed 1 (words (codes "rank aberration"))) ≡ Ok Aberration
example_ranks = refl

example_third : ranks 2 (placed 1 (words (codes "rank aberration "))) ≡ Err (Word (Unknown (record { line = 2; column = 17 })))
example_third = refl
