use Rattle.std.proofs.Common.{get_or, sym}
use Rattle.sheet.specs.Letters.{factor}
use Rattle.sheet.proofs.Group.{factor_below, turn}
use Rattle.sheet.proofs.letters.Alphabet.effect.Goals as goal

pub loop-letter-preserved : goal.loop-letter-preserved
loop-letter-preserved c =
    let is = sym c.in_ok-factor.ensures in
    let below = factor_below c.args.self (get_or c.args.bytes.now c.loop-letter.letter-index 0) c.in_ok-factor.factor is in
    turn (factor c.args.self) _ _ _ _ _ c.loop-letter-test.true is c.if-factor-next.false below c.loop-letter.invariant.0 c.loop-letter.invariant.1
