-- The form of a whole sheet. Assumes nothing.
use Rattle.std.specs.Prelude.{◌≡◌, ℕ, Bool, true, false, cond, ◌&&◌, List, [], ◌∷◌, length, Ok, Err, Result, nat_le, refl}
use Rattle.sheet.specs.Cuts.{fed}
use Rattle.sheet.specs.declared.fault.SheetFault.{SheetFault}
use Rattle.sheet.specs.declared.fault.SheetFault.TheVariants.{Form}

-- whether a sheet has at most 4,096 bytes and each line ends with a line feed
abbrev pub formed : List ℕ → Bool
formed xs = nat_le (length xs) 4096 && fed xs

-- what a sheet is refused with where it is not so
abbrev pub form_check : List ℕ → Result Unit SheetFault
form_check xs = cond (formed xs) (Ok tt) (Err Form)

example_none : formed [] ≡ true
example_none = refl

example_ended : formed (102 ∷ 10 ∷ []) ≡ true
example_ended = refl

example_open : formed (10 ∷ 102 ∷ []) ≡ false
example_open = refl
