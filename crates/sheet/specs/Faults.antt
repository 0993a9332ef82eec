-- The number and the place of each fault, and how a fault ends what is read. Assumes nothing.
use Rattle.std.specs.Prelude.{◌≡◌, ℕ, Ok, Err, Result, refl}
use Rattle.sheet.specs.declared.fault.Place.{Place}
use Rattle.sheet.specs.declared.fault.WordFault.{WordFault}
use Rattle.sheet.specs.declared.fault.WordFault.TheVariants.{Unknown, Number, Letters}
use Rattle.sheet.specs.declared.fault.LineFault.TheVariants.{Word, Count}
use Rattle.sheet.specs.declared.fault.SheetFault.{SheetFault}
use Rattle.sheet.specs.declared.fault.SheetFault.TheVariants.{Form, Line}

-- the number that an answer names a fault by
abbrev pub fault_number : SheetFault → ℕ
fault_number Form = 31
fault_number (Line (Word (Unknown p))) = 32
fault_number (Line (Count l)) = 33
fault_number (Line (Word (Number p))) = 34
fault_number (Line (Word (Letters p))) = 35

-- where a faulty word begins
abbrev pub word_place : WordFault → Place
word_place (Unknown p) = p
word_place (Number p) = p
word_place (Letters p) = p

-- the place that an answer names: where the word begins, else column 1 of the line, and line 1 for the whole sheet
abbrev pub fault_place : SheetFault → Place
fault_place Form = record { line = 1; column = 1 }
fault_place (Line (Word w)) = word_place w
fault_place (Line (Count l)) = record { line = l; column = 1 }

-- what is read after a first thing was read; the first fault ends it, carried whole into a fault of the wider kind
abbrev pub and_then : {A B E F : Type 0} → (E → F) → Result A E → (A → Result B F) → Result B F
and_then lift (Ok x) next = next x
and_then lift (Err e) next = Err (lift e)

example_count : fault_place (Line (Count 3)) ≡ record { line = 3; column = 1 }
example_count = refl
