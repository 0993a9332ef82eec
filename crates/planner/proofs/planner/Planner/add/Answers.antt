use Rattle.std.proofs.Common.{◌≡◌, Ok, Err, Option, sym, refl, ap, ◌∙◌, subst}
use Rattle.std.proofs.lemmas.Result.{err_from_is_err_and}
use Rattle.opening.specs.Shapes.{factors_of}
use Rattle.key.specs.declared.Key.{Key}
use Rattle.wishes.specs.Forms.{forming}
use Rattle.planner.specs.declared.effect.Effect.TheVariants.{NoPlan, Stays, Falls}
use Rattle.planner.specs.Rules.{AddedBy}
use Rattle.planner.proofs.Changing.{not_formed, not_added, added, is_formed, plan_stays, plan_falls}
use Rattle.planner.proofs.planner.Planner.add.Goals as goal

pub returns-in_err-wish : goal.returns-in_err-wish
returns-in_err-wish g c =
    let told = err_from_is_err_and c.from_residual.result c.from_residual.ensures.1 in
    not_formed g.R.Ranking.scored g.R.Ranking.ranked c.args.self.now _ refl c.args.numbers.kind c.args.numbers.e c.args.numbers.f
    c.in_err-wish.field-0.0 c.from_residual.result
    (cc (c.shape.ensures, c.form.ensures, c.in_err-wish.was))
    (told.1 ∙ ap Err told.2) refl refl

pub returns-in_err-add : goal.returns-in_err-add
returns-in_err-add g c =
    let told = err_from_is_err_and c.from_residual-in_err-add.result c.from_residual-in_err-add.ensures.1 in
    not_added g.R.Ranking.scored g.R.Ranking.ranked c.args.self.now _ refl c.args.numbers.kind c.args.numbers.e c.args.numbers.f
    c.in_ok-wish.wish
    (cc (c.shape.ensures, c.form.ensures, c.in_ok-wish.was))
    c.in_err-add.field-0.0 c.from_residual-in_err-add.result
    (sym c.add.ensures.answer ∙ c.in_err-add.was)
    (told.1 ∙ ap Err told.2) c.in_err-add.ensures.after refl

pub returns-in-None : goal.returns-in-None
returns-in-None g c =
    added g.R.Ranking.scored g.R.Ranking.ranked c.args.self.now _ refl c.args.numbers.kind c.args.numbers.e c.args.numbers.f
    c.in_ok-wish.wish
    (cc (c.shape.ensures, c.form.ensures, c.in_ok-wish.was))
    NoPlan (sym c.add.ensures.answer ∙ c.in_ok-add.was)
    (subst (λ (plan : Option Key). AddedBy plan c.in_ok-wish.wish (Ok NoPlan)) (sym c.in-None.is) refl)
    c.in_ok-add.ensures.after refl

pub returns-in-Some : goal.returns-in-Some
returns-in-Some g c =
    let formed : forming (factors_of c.args.self.now.standing.shape) c.args.numbers.kind c.args.numbers.e c.args.numbers.f ≡ Ok c.in_ok-wish.wish = cc (c.shape.ensures, c.form.ensures, c.in_ok-wish.was) in
    added g.R.Ranking.scored g.R.Ranking.ranked c.args.self.now _ refl c.args.numbers.kind c.args.numbers.e c.args.numbers.f
    c.in_ok-wish.wish formed
    Stays (sym c.add.ensures.answer ∙ c.in_ok-add.was)
    (plan_stays c.args.self.now c.in-Some.plan c.in-Some.is c.in_ok-wish.wish
    (is_formed g.R.Ranking.scored g.R.Ranking.ranked c.args.self.now c.args.self.now refl c.args.numbers.kind c.args.numbers.e c.args.numbers.f c.in_ok-wish.wish formed)
    c.counts.result c.counts.ensures.shape c.counts.ensures.columns c.if-not-fails.ensures.test)
    c.in_ok-add.ensures.after refl

pub returns-in-Some-2 : goal.returns-in-Some-2
returns-in-Some-2 g c =
    let formed : forming (factors_of c.args.self.now.standing.shape) c.args.numbers.kind c.args.numbers.e c.args.numbers.f ≡ Ok c.in_ok-wish.wish = cc (c.shape.ensures, c.form.ensures, c.in_ok-wish.was) in
    added g.R.Ranking.scored g.R.Ranking.ranked c.args.self.now _ refl c.args.numbers.kind c.args.numbers.e c.args.numbers.f
    c.in_ok-wish.wish formed
    Falls (sym c.add.ensures.answer ∙ c.in_ok-add.was)
    (plan_falls c.args.self.now c.in-Some.plan c.in-Some.is c.in_ok-wish.wish
    (is_formed g.R.Ranking.scored g.R.Ranking.ranked c.args.self.now c.args.self.now refl c.args.numbers.kind c.args.numbers.e c.args.numbers.f c.in_ok-wish.wish formed)
    c.counts.result c.counts.ensures.shape c.counts.ensures.columns c.if-not-fails.ensures.test)
    c.in_ok-add.ensures.after refl
