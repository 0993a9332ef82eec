use Rattle.std.proofs.Common.{Some, Err, sym, refl, ap, ◌∙◌}
use Rattle.std.proofs.lemmas.Result.{err_from_is_err_and}
use Rattle.planner.proofs.Changing.{not_found, found, none_found, one_found}
use Rattle.planner.proofs.planner.Planner.find.Goals as goal

pub returns-in_err-key : goal.returns-in_err-key
returns-in_err-key g c =
    let told = err_from_is_err_and c.from_residual.result c.from_residual.ensures.1 in
    let none = none_found c.first_best.result c.in_err-key.field-0.0 (sym c.ok_or.ensures.value ∙ c.in_err-key.was) in
    not_found g.R.Ranking.scored g.R.Ranking.ranked c.args.self.now _ refl c.from_residual.result (told.1 ∙ ap Err (told.2 ∙ none.1))
    c.first_best.result none.0 c.first_best.ensures.sound refl refl

pub returns : goal.returns
returns g c =
    found g.R.Ranking.scored g.R.Ranking.ranked c.args.self.now _ refl c.insert-plan.result.now c.first_best.result
    (one_found c.first_best.result c.in_ok-key.key (sym c.ok_or.ensures.value ∙ c.in_ok-key.was) ∙ ap Some (sym c.insert-plan.ensures.value))
    c.first_best.ensures.shape c.first_best.ensures.found refl refl
