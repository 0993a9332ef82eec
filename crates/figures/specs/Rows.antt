-- A table of counts: a row for each word, with a number for each length. Assumes nothing.
use Rattle.std.specs.Prelude.{ℕ, List, map}
use Rattle.std.specs.List.{range_with_len}
use Rattle.theory.specs.Tallies.{members}

-- how many effects of each length from 0 to 10 have the alias v
unfoldable pub row_of : List ℕ → ℕ → List ℕ
row_of cs v = map (λ j. members cs j v) (range_with_len 0 11)

-- the row of each of the 32 words that there can be
unfoldable pub table_of : List ℕ → List (List ℕ)
table_of cs = map (row_of cs) (range_with_len 0 32)
