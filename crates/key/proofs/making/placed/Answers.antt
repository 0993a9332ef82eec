use Rattle.std.proofs.Common.{rules, ◌≡◌, sym, ◌∙◌}
use borrow.Author.Tests.{tests}
use Rattle.std.specs.List.{list_all, enumerate_from}
use Rattle.std.proofs.lemmas.Iterator.{YieldsList-from_slice}
use Rattle.std.proofs.lemmas.Iterator.Consumers.{YieldsList-from_enumerate}
use Rattle.std.proofs.lemmas.Iterator.Search.{all_from_yields_List}
use Rattle.key.proofs.Tests.{placed_test, placed_is}
use Rattle.key.proofs.making.placed.Goals as goal

pub returns : goal.returns
returns c =
    let cs = c.args.columns.now in
    let told : c.all.result ≡ list_all (placed_test c.args.shape) (enumerate_from 0 cs) = all_from_yields_List (placed_test c.args.shape) _ _ c.all.result c.all.ensures.ran (YieldsList-from_enumerate (YieldsList-from_slice cs cc) cc) (λ x b q k. search (rules, tests)) in
    let so = placed_is c.args.shape cs c.requires in
    (λ t. so.0 (sym told ∙ t), λ s. told ∙ so.1 s)
