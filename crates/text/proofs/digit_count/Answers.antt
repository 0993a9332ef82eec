use Rattle.std.proofs.Common.{length, ap, arith}
use Rattle.std.proofs.lemmas.Fmt.{decimal_digit, length-decimal-le}
use Rattle.text.proofs.Put.{length_more}
use Rattle.text.proofs.digit_count.Goals as goal

pub loop-rest-init : goal.loop-rest-init
loop-rest-init c = (omega arith, length-decimal-le 20 c.args.n (omega arith) (omega arith) (omega arith), omega arith)

pub loop-rest-preserved : goal.loop-rest-preserved
loop-rest-preserved c = (omega (arith, length_more c.loop-rest.rest c.loop-rest-test.true (omega arith)), c.loop-rest.invariant.1, omega arith)

pub returns : goal.returns
returns c =
    let one = ap length (decimal_digit c.loop-rest.rest c.loop-rest-test.false) in
    record { value = omega arith; bound = omega arith }
