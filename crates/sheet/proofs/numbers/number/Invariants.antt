use Rattle.std.proofs.Common.{◌≡◌, ◌^◌, ◌<◌, drop}
use Rattle.sheet.specs.Numbers.{digits_on}
use Rattle.sheet.proofs.numbers.number.Given as goal

abbrev pub invariant-loop-b : goal.invariant-loop-b
invariant-loop-b l = (digits_on l.n (drop l.b-index l.bytes) ≡ digits_on 0 l.bytes) × (l.n < 10 ^ l.b-index)
