use Rattle.std.proofs.Common.{rules}
use Rattle.sheet.proofs.Digit.{digit_low, digit_high, digits_stop, digits_end, sized, turn}
use Rattle.sheet.proofs.numbers.number.Goals as goal

pub returns-then-b-lt48 : goal.returns-then-b-lt48
returns-then-b-lt48 c = search (rules, digit_low, digit_high, digits_stop, sized)

pub loop-b-preserved : goal.loop-b-preserved
loop-b-preserved c = turn _ _ _ _ c.loop-b-test.true c.if-b-lt48.false c.if-b-gt57.false c.from.ensures c.loop-b.invariant.0 c.loop-b.invariant.1

pub returns : goal.returns
returns c = search (rules, digits_end, sized)
