use Rattle.std.proofs.Common.{sym, ap, ◌∙◌, arith}
use Rattle.opening.specs.Shapes.{factors_of}
use Rattle.theory.specs.Wishes.{formed}
use Rattle.wishes.proofs.Listed.{one_more}
use Rattle.wishes.proofs.Places.{length_items}
use Rattle.wishes.proofs.standing.Standing.add.Goals as goal

pub invariant_of-self : goal.invariant_of-self
invariant_of-self c =
    let old = c.args.self.now in
    let n = factors_of old.shape in
    let of = sym (c.if-not-is_formed.ensures ∙ ap (λ n. formed n c.args.wish) (c.from.ensures ∙ c.factors.ensures)) in
    let more = one_more n c.args.wish old.wishes c.push.new.self c.push.result c.push.ensures.ok c.push.ensures.err old.formed old.once of (sym c.if-holds.ensures) in
    let wishes = c.push.new.self in
    record { few = omega (arith, length_items wishes, wishes.few); formed = more.0; once = more.1 }
