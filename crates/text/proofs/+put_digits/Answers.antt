use Rattle.std.proofs.Common.{length, ap, arith, rules}
use Rattle.std.proofs.lemmas.Fmt.{decimal_digit}
use Rattle.text.proofs.Put.{put_one_digit, put_digit, length_more}
use Rattle.text.proofs.+put_digits.Goals as goal

pub bounds-out-at : goal.bounds-out-at
bounds-out-at t c = omega (arith, ap length (decimal_digit c.args.n c.if-n-lt10.true))

pub returns-then-n-lt10 : goal.returns-then-n-lt10
returns-then-n-lt10 t c = record {
  value = omega (arith, ap length (decimal_digit c.args.n c.if-n-lt10.true));
  after = put_one_digit _ _ _ c.if-n-lt10.true c.requires;
}

pub put_digits-end-requires : goal.put_digits-end-requires
put_digits-end-requires t c = (search rules, omega (arith, length_more c.args.n c.if-n-lt10.false (omega arith)))

pub bounds-out-end : goal.bounds-out-end
bounds-out-end t c = omega (arith, length_more c.args.n c.if-n-lt10.false (omega arith))

pub overflow_add-result-2 : goal.overflow_add-result-2
overflow_add-result-2 t c = search (rules, length_more c.args.n c.if-n-lt10.false (omega arith))

pub returns : goal.returns
returns t c = record {
  value = omega (arith, length_more c.args.n c.if-n-lt10.false (omega arith));
  after = put_digit _ _ _ _ _ c.if-n-lt10.false (omega arith) c.requires c.put_digits-end.ensures.after c.put_digits-end.ensures.value;
}
