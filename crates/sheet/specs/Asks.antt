-- What the place of a word in its line asks of it, and its fault where it is not so. Assumes nothing.
--
-- A word of a line is the pair of the column where it begins and its bytes.
use Rattle.std.specs.Prelude.{◌≡◌, ℕ, cond, List, Ok, Err, codes, Result, refl}
use Rattle.std.specs.Option.{ok_or}
use Rattle.std.specs.Str.{bytes_eq}
use Rattle.sheet.specs.Letters.{effect_of}
use Rattle.sheet.specs.Numbers.{number_of}
use Rattle.sheet.specs.declared.fault.Place.{Place}
use Rattle.sheet.specs.declared.fault.WordFault.{WordFault}
use Rattle.sheet.specs.declared.letters.Alphabet.{Alphabet}
use Rattle.sheet.specs.declared.fault.WordFault.TheVariants.{Unknown, Number, Letters}

-- the place of a word
abbrev pub place_at : ℕ → ℕ × List ℕ → Place
place_at line w = record { line = line; column = w.0 }

-- a word that is to be a fixed one, byte for byte
abbrev pub fixed_at : List ℕ → ℕ → ℕ × List ℕ → Result Unit WordFault
fixed_at fixed line w = cond (bytes_eq w.1 fixed) (Ok tt) (Err (Unknown (place_at line w)))

-- a word that is to be a number
abbrev pub number_at : ℕ → ℕ × List ℕ → Result ℕ WordFault
number_at line w = ok_or (number_of w.1) (Number (place_at line w))

-- a word that is to be a letter group of a plan's factors
abbrev pub effect_at : Alphabet → ℕ → ℕ × List ℕ → Result ℕ WordFault
effect_at a line w = ok_or (effect_of a w.1) (Letters (place_at line w))

example_number : number_at 1 (8, codes "10000") ≡ Err (Number (record { line = 1; column = 8 }))
example_number = refl
