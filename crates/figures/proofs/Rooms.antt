-- What room for one more column says.
use Rattle.std.proofs.Common.{◌≡◌, ℕ, ◌^◌, ◌<◌, true, ltb, length, lt_of_lt_of_le, arith, pow_mono, lt-ltb, ltb-true}
use Rattle.std.proofs.lemmas.Bool.{and_parts, and_from}
use Rattle.opening.specs.Shapes.{units_of}
use Rattle.opening.specs.declared.Shape.{Shape}
use Rattle.figures.specs.Counted.{columns_in, room_for}
use Rattle.figures.specs.declared.counts.Counts.{Counts}

-- there are at most 32 unit words
pub word_small : (shape : Shape) (v : ℕ) → v < 2 ^ units_of shape → v < 32
word_small shape v h = let units = shape.units in lt_of_lt_of_le h (pow_mono {j = 5} (omega arith))

module _ (counts : Counts) (c : ℕ) (room : room_for counts c ≡ true) where
  pub room_few : length (columns_in counts) < 10
  room_few = ltb-true (length (columns_in counts)) 10 (and_parts (ltb (length (columns_in counts)) 10) (ltb c (2 ^ units_of counts.shape)) room).0

  pub room_word : c < 2 ^ units_of counts.shape
  room_word = ltb-true c (2 ^ units_of counts.shape) (and_parts (ltb (length (columns_in counts)) 10) (ltb c (2 ^ units_of counts.shape)) room).1

-- room for a unit word after fewer than ten columns
pub room_from : (counts : Counts) (c : ℕ) → length (columns_in counts) < 10 → c < 2 ^ units_of counts.shape → room_for counts c ≡ true
room_from counts c few word =
    and_from (ltb (length (columns_in counts)) 10) (ltb c (2 ^ units_of counts.shape))
    (lt-ltb (length (columns_in counts)) 10 few) (lt-ltb c (2 ^ units_of counts.shape) word)
