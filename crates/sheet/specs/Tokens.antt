-- What a token says, and its fault where it says nothing. Assumes nothing.
use Rattle.std.specs.Prelude.{◌≡◌, ℕ, List, Err, Result, refl}
use Rattle.sheet.specs.Asks.{fixed_at, number_at, effect_at}
use Rattle.sheet.specs.declared.fault.WordFault.{WordFault}
use Rattle.sheet.specs.declared.fault.WordFault.TheVariants as wf
use Rattle.sheet.specs.declared.letters.Alphabet.{Alphabet}
use Rattle.sheet.specs.declared.token.Part.{Part}
use Rattle.sheet.specs.declared.token.Token.{Token}
use Rattle.sheet.specs.declared.token.Token.TheVariants.{Word, Number, Letters}

-- the fault of a token that is not what it is to be
abbrev pub fault_of : Token → WordFault
fault_of (Word p) = wf.Unknown p.place
fault_of (Number p) = wf.Number p.place
fault_of (Letters p) = wf.Letters p.place

-- a token that is to be a fixed word
abbrev pub fixed_in : List ℕ → Token → Result Unit WordFault
fixed_in fixed (Word p) = fixed_at fixed p.place.line (p.place.column, p.bytes.now)
fixed_in fixed (Number p) = Err (fault_of (Number p))
fixed_in fixed (Letters p) = Err (fault_of (Letters p))

-- a token that is to be a number
abbrev pub number_in : Token → Result ℕ WordFault
number_in (Word p) = Err (fault_of (Word p))
number_in (Number p) = number_at p.place.line (p.place.column, p.bytes.now)
number_in (Letters p) = Err (fault_of (Letters p))

-- a token that is to be a letter group
abbrev pub effect_in : Alphabet → Token → Result ℕ WordFault
effect_in a (Word p) = Err (fault_of (Word p))
effect_in a (Number p) = Err (fault_of (Number p))
effect_in a (Letters p) = effect_at a p.place.line (p.place.column, p.bytes.now)

-- a fixed word is no number
example_word : (p : Part) → number_in (Word p) ≡ Err (wf.Unknown p.place)
example_word p = refl
