-- What the type of a key says.
use Rattle.std.proofs.Common.{◌≡◌, ℕ, ◌^◌, ◌<◌, [], ◌∷◌, length, ◌∙◌}
use Rattle.key.specs.declared.Key.{Key}
use Rattle.opening.specs.Shapes.{layers_of, homes_of, units_of, factors_of}
use Rattle.key.specs.Questions.{columns_of, word_of, SignLaws}
use Rattle.theory.proofs.Homes.{length_homes}
use Rattle.theory.proofs.Sounds.{alias_word}
use Rattle.theory.proofs.Halves.{sign_fact}

-- a key has a column for each factor
pub length_columns : (key : Key) → length (columns_of key) ≡ factors_of key.shape
length_columns key = key.sound.size ∙ length_homes key.shape.n1 key.shape.n2

-- the alias of an effect is a unit word
pub word_lt : (key : Key) (e : ℕ) → word_of key e < 2 ^ units_of key.shape
word_lt key = alias_word (layers_of key.shape) (columns_of key) key.sound.words

pub sign_laws : (key : Key) → SignLaws key
sign_laws key = sign_fact (key.shape.w ∷ []) (key.shape.s ∷ []) (homes_of key.shape) (columns_of key) key.sound
