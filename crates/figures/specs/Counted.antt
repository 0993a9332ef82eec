-- What counts are of. Assumes nothing.
use Rattle.std.specs.Prelude.{ℕ, ◌*◌, ◌^◌, Bool, cond, ◌&&◌, List, length, ◌==◌, nat_lt}
use Rattle.few.specs.Few.{items}
use Rattle.theory.specs.Tallies.{members}
use Rattle.opening.specs.Shapes.{units_of}
use Rattle.figures.specs.declared.counts.Counts.{Counts}

-- the columns counted, in the order in which they were placed
abbrev pub columns_in : Counts → List ℕ
columns_in counts = items counts.columns

-- there are fewer than ten columns, and c is a unit word
abbrev pub room_for : Counts → ℕ → Bool
room_for counts c = nat_lt (length (items counts.columns)) 10 && nat_lt c (2 ^ units_of counts.shape)

-- the interactions in the chain with the alias v, where it holds no main effect; and their square
abbrev pub unmixed : List ℕ → ℕ → ℕ
unmixed cs v = cond (members cs 1 v == 0) (members cs 2 v) 0

abbrev pub unmixed_square : List ℕ → ℕ → ℕ
unmixed_square cs v = cond (members cs 1 v == 0) (members cs 2 v * members cs 2 v) 0
