use Rattle.std.proofs.Common.{◌≡◌, ◌-◌, ◌≤◌, ◌++◌, length, take}
use Rattle.sheet.specs.Letters.{letters_from}
use Rattle.sheet.proofs.letters.put_letters.Given as goal

abbrev pub invariant-loop-factor : goal.invariant-loop-factor
invariant-loop-factor l =
    (take l.length l.group ++ letters_from l.n1 l.factor (16 - l.factor) l.rest ≡ letters_from l.n1 0 16 l.effect)
    × (l.length ≤ l.factor)
    × (length l.group ≡ 16)
