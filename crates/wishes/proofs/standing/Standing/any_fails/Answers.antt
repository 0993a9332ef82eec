use Rattle.std.proofs.Common.{MatchBool, All, rules}
use Rattle.std.proofs.lemmas.Bool.Decides.{when_true}
use Rattle.opening.specs.Shapes.{layers_of}
use Rattle.figures.specs.Counted.{columns_in}
use Rattle.wishes.specs.Standings.{wishes_in}
use Rattle.wishes.specs.Tests.{SomeFails, Passes}
use Rattle.wishes.proofs.Failing.{some_fails_for_all}
use Rattle.wishes.proofs.standing.Standing.any_fails.Goals as goal

pub returns-clause-front : goal.returns-clause-front
returns-clause-front c = λ fails.
    let ws = layers_of c.args.counts.now.shape in
    let cs = columns_in c.args.counts.now in
    let wishes = wishes_in c.args.self.now in
    let test : MatchBool c.any.result (SomeFails ws cs wishes) (All (Passes ws cs) wishes) = search rules in
    some_fails_for_all ws cs wishes (when_true _ _ fails test)
