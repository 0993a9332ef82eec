use Rattle.std.proofs.Common.{◌≡◌, length, take}
use Rattle.key.specs.Questions.{columns_of}
use Rattle.key.proofs.Rows.{signs_to}
use Rattle.key.proofs.Key.put_signs.Given as goal

-- the signs of the factors so far stand at the front
abbrev pub invariant-loop-factor : goal.invariant-loop-factor
invariant-loop-factor l = (take l.factor l.signs ≡ signs_to (columns_of l.self) l.run l.factor) × (length l.signs ≡ 10)
