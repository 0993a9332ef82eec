use Rattle.std.proofs.Common.{rules, ◌≡◌, ◌^◌, ◌≤◌, take, length, sym, ◌∙◌, arith, pow_mono}
use borrow.Author.Tests.{tests}
use Rattle.std.specs.List.{list_all}
use Rattle.std.proofs.lemmas.Iterator.{YieldsList-from_slice, YieldsList-from_take}
use Rattle.std.proofs.lemmas.Iterator.Search.{all_from_yields_List}
use Rattle.opening.specs.Shapes.{units_of}
use Rattle.key.proofs.Tests.{marks_are}
use Rattle.key.proofs.making.all_seen.Goals as goal

pub returns : goal.returns
returns c =
    let n = c.from.result in
    let units = c.args.shape.units in
    let many : n ≡ 2 ^ units_of c.args.shape = omega arith in
    let few : n ≤ length c.args.seen = omega (arith, pow_mono {i = units_of c.args.shape} {j = 5} (omega arith)) in
    let told : c.all.result ≡ list_all (λ mark. mark) (take n c.args.seen) = all_from_yields_List (λ mark. mark) _ _ c.all.result c.all.ensures.ran (YieldsList-from_take n (YieldsList-from_slice c.args.seen cc) cc) (λ x b q k. search (rules, tests)) in
    let so = marks_are c.args.seen n few in
    (λ t v l. so.0 (sym told ∙ t) v (omega arith), λ each. told ∙ so.1 (λ v l. each v (omega arith)))
