use Rattle.std.proofs.Common.{ap, ◌∙◌, arith}
use Rattle.text.specs.Texts.{written, ended}
use Rattle.sheet.proofs.Spell.{turn_yes, turn_no, spelled}
use Rattle.sheet.proofs.letters.put_letters.Goals as goal
use Rattle.sheet.proofs.letters.put_letters.Goals.{then-rest-eq1, else-rest-eq1}

pub loop-factor-preserved : goal.loop-factor-preserved
loop-factor-preserved c =
    elim c.if-rest-eq1.branch [
      | then-rest-eq1 w ↦ turn_yes _ _ _ c.loop-factor-test.true _ _ _ _ _ _ c.loop-factor.invariant.2 c.loop-factor.invariant.1 w.if-rest-eq1.true w.group-is w.length-is w.letter.ensures c.loop-factor.invariant.0
      | else-rest-eq1 w ↦ turn_no _ _ _ c.loop-factor-test.true _ _ _ _ _ c.loop-factor.invariant.2 c.loop-factor.invariant.1 w.if-rest-eq1.false w.group-is w.length-is c.loop-factor.invariant.0
    ]

pub slice_bounds-put_bytes-end-2 : goal.slice_bounds-put_bytes-end-2
slice_bounds-put_bytes-end-2 c = omega arith

pub returns : goal.returns
returns c =
    let whole = spelled c.args.n1 c.args.effect c.loop-factor.factor c.loop-factor.rest c.loop-factor.group c.loop-factor.length c.if-effect-eq0.false c.loop-factor-test.false c.loop-factor.invariant.0 in
    record {
      value = c.put_bytes-2.ensures.value ∙ ap (ended c.args.out.now c.args.at) whole;
      after = c.put_bytes-2.ensures.after ∙ ap (written c.args.out.now c.args.at) whole;
    }
