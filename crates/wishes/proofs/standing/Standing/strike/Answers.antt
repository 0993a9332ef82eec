use Rattle.std.proofs.Common.{◌≡◌, not, refl, arith, rules, tests}
use Rattle.std.specs.List.{position}
use Rattle.std.proofs.lemmas.Iterator.{YieldsList-from_slice}
use Rattle.std.proofs.lemmas.Iterator.Search.{position_from_yields_List}
use Rattle.std.proofs.lemmas.Result.{err_from_is_err_and}
use Rattle.few.specs.Few.{items}
use Rattle.opening.specs.Shapes.{factors_of}
use Rattle.wishes.specs.Lists.{same_wish, without}
use Rattle.wishes.specs.Standings.{wishes_in}
use Rattle.wishes.proofs.Listed.{is_it, formed_kept, distinct_kept, refused, struck}
use Rattle.wishes.proofs.Places.{length_items}
use Rattle.wishes.proofs.standing.Standing.strike.Goals as goal
use Rattle.wishes.proofs.standing.Standing.strike.Goals.{After-position-place, After-remove}

place_is : (c : After-position-place) → c.position-place.result ≡ position (is_it c.args.wish) (wishes_in c.args.self.now)
place_is c =
    position_from_yields_List (is_it c.args.wish) _ _ c.position-place.result c.position-place.ensures.ran (YieldsList-from_slice (wishes_in c.args.self.now) cc)
    (λ x b q k. search (rules, tests))

left : (c : After-remove) → c.position-place.result ≡ position (is_it c.args.wish) (wishes_in c.args.self.now) → items c.remove.new.self ≡ without c.args.wish (wishes_in c.args.self.now)
left c is =
    struck c.args.wish (wishes_in c.args.self.now) c.position-place.result is c.ok_or.result c.ok_or.ensures.value
    c.in_ok-index.index c.remove.result (items c.remove.new.self) c.in_ok-index.was c.args.self.now.once c.remove.ensures.value c.remove.ensures.some

pub returns-in_err-index-clause-answer : goal.returns-in_err-index-clause-answer
returns-in_err-index-clause-answer c =
    let is = place_is (goal.at.returns-in_err-index-clause-answer c).After-position-place in
    let r = err_from_is_err_and c.from_residual.result c.from_residual.ensures.1 in
    rw (r.1, r.2)
    (refused c.args.wish (wishes_in c.args.self.now) c.position-place.result is c.ok_or.result c.ok_or.ensures.value c.in_err-index.field-0.0 c.in_err-index.was)

pub returns-clause-after : goal.returns-clause-after
returns-clause-after c = let at = goal.at.returns-clause-after c in (refl, left at.After-remove (place_is at.After-position-place))

pub invariant_of-self : goal.invariant_of-self
invariant_of-self c =
    let old = c.args.self.now in
    let at = goal.at.invariant_of-self c in
    let is = left at.After-remove (place_is at.After-position-place) in
    let wishes = c.remove.new.self in
    record {
      few = omega (arith, length_items wishes, wishes.few);
      formed = rw is (formed_kept (λ x. not (same_wish x c.args.wish)) (factors_of old.shape) (wishes_in old) old.formed);
      once = rw is (distinct_kept (λ x. not (same_wish x c.args.wish)) (wishes_in old) old.once);
    }
