use Rattle.std.proofs.Common.{replicate, decimal, sym, ap, ◌∙◌, arith}
use Rattle.std.proofs.lemmas.Fmt.{decimal_digit}
use Rattle.few.specs.Few.{items}
use Rattle.text.specs.Texts.{added}
use Rattle.text.proofs.Put.{front_is, front_long, twenty}
use Rattle.text.proofs.add_number.Goals as goal

pub slice_bounds-add_bytes-end-2 : goal.slice_bounds-add_bytes-end-2
slice_bounds-add_bytes-end-2 g c =
    front_long (replicate 20 0) (decimal c.args.n) _ _ (twenty c.args.n (omega arith)) c.put_number-size.ensures.after c.put_number-size.ensures.value

pub returns-then-n-lt10 : goal.returns-then-n-lt10
returns-then-n-lt10 g c = c.add_bytes.ensures ∙ ap (added g.row.CAP (items c.args.text.now)) (sym (decimal_digit c.args.n c.if-n-lt10.true))

pub returns : goal.returns
returns g c =
    let front = front_is (replicate 20 0) (decimal c.args.n) _ _ (twenty c.args.n (omega arith)) c.put_number-size.ensures.after c.put_number-size.ensures.value in
    c.add_bytes-2.ensures ∙ ap (added g.row.CAP (items c.args.text.now)) front
