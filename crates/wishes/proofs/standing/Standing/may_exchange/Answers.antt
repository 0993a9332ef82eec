use Rattle.std.proofs.Common.{◌≡◌, ℕ, refl, subst₂, rules, tests}
use Rattle.std.specs.List.{list_all}
use Rattle.std.proofs.lemmas.Bool.{false≢true}
use Rattle.std.proofs.lemmas.Iterator.{YieldsList-from_slice}
use Rattle.std.proofs.lemmas.Iterator.Search.{all_from_yields_List}
use Rattle.wishes.specs.Standings.{wishes_in}
use Rattle.wishes.proofs.Turning.{kept, exchange_decided, exchange_refused}
use Rattle.wishes.proofs.standing.Standing.may_exchange.Goals as goal

pub returns-in_default : goal.returns-in_default
returns-in_default c =
    exchange_refused c.args.self.now.shape (wishes_in c.args.self.now) c.args.first c.args.second (λ alike. false≢true (c.in_default.ensures.some.1 alike))

pub returns : goal.returns
returns c =
    let shape = c.args.self.now.shape in
    let wishes = wishes_in c.args.self.now in
    let told = c.in-Some.ensures in
    exchange_decided shape wishes c.args.first c.args.second c.all.result (told.some.0 refl)
    (subst₂ (λ (i j : ℕ). c.all.result ≡ list_all (kept shape wishes i j) wishes) told.pair.0 told.pair.1
    (all_from_yields_List (kept shape wishes c.in-Some.pair.first c.in-Some.pair.second) _ _ c.all.result c.all.ensures.ran (YieldsList-from_slice wishes cc) (λ x b q k. search (rules, tests))))
