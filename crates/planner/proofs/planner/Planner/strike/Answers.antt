use Rattle.std.proofs.Common.{Ok, Err, Option, sym, refl, ap, ◌∙◌}
use Rattle.std.proofs.lemmas.Result.{err_from_is_err_and}
use Rattle.key.specs.declared.Key.{Key}
use Rattle.planner.specs.declared.effect.Effect.TheVariants.{NoPlan, Falls}
use Rattle.planner.specs.Rules.{struck_by}
use Rattle.planner.proofs.Changing.{formed_wish, no_wish, none_struck, not_struck, struck}
use Rattle.planner.proofs.planner.Planner.strike.Goals as goal

pub returns-in_err-wish : goal.returns-in_err-wish
returns-in_err-wish g c =
    let told = err_from_is_err_and c.from_residual.result c.from_residual.ensures.1 in
    let absent = no_wish c.form.result c.in_err-wish.field-0.0 (sym c.or.ensures ∙ c.in_err-wish.was) in
    none_struck g.R.Ranking.scored g.R.Ranking.ranked c.args.self.now _ refl c.args.numbers.kind c.args.numbers.e c.args.numbers.f
    absent.0.0 c.from_residual.result
    (cc (c.shape.ensures, c.form.ensures, absent.0.1))
    (told.1 ∙ ap Err (told.2 ∙ absent.1)) refl refl

pub returns-in_err-strike : goal.returns-in_err-strike
returns-in_err-strike g c =
    let told = err_from_is_err_and c.from_residual-in_err-strike.result c.from_residual-in_err-strike.ensures.1 in
    not_struck g.R.Ranking.scored g.R.Ranking.ranked c.args.self.now _ refl c.args.numbers.kind c.args.numbers.e c.args.numbers.f
    c.in_ok-wish.wish
    (cc (c.shape.ensures, c.form.ensures, formed_wish c.form.result c.in_ok-wish.wish (sym c.or.ensures ∙ c.in_ok-wish.was)))
    c.in_err-strike.field-0.0 c.from_residual-in_err-strike.result
    (sym c.strike.ensures.answer ∙ c.in_err-strike.was)
    (told.1 ∙ ap Err told.2) c.in_err-strike.ensures.after refl

pub returns-in-None : goal.returns-in-None
returns-in-None g c =
    struck g.R.Ranking.scored g.R.Ranking.ranked c.args.self.now _ refl c.args.numbers.kind c.args.numbers.e c.args.numbers.f
    c.in_ok-wish.wish
    (cc (c.shape.ensures, c.form.ensures, formed_wish c.form.result c.in_ok-wish.wish (sym c.or.ensures ∙ c.in_ok-wish.was)))
    NoPlan (sym c.strike.ensures.answer ∙ c.in_ok-strike.was)
    (ap (λ (plan : Option Key). struck_by plan (Ok tt)) (sym c.take.ensures.value ∙ c.in-None.is)) c.in_ok-strike.ensures.after c.take.ensures.after

pub returns-in-Some : goal.returns-in-Some
returns-in-Some g c =
    struck g.R.Ranking.scored g.R.Ranking.ranked c.args.self.now _ refl c.args.numbers.kind c.args.numbers.e c.args.numbers.f
    c.in_ok-wish.wish
    (cc (c.shape.ensures, c.form.ensures, formed_wish c.form.result c.in_ok-wish.wish (sym c.or.ensures ∙ c.in_ok-wish.was)))
    Falls (sym c.strike.ensures.answer ∙ c.in_ok-strike.was)
    (ap (λ (plan : Option Key). struck_by plan (Ok tt)) (sym c.take.ensures.value ∙ c.in-Some.is)) c.in_ok-strike.ensures.after c.take.ensures.after
