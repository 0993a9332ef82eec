use Rattle.std.proofs.Common.{sym, ap, ◌∙◌, subst}
use Rattle.theory.specs.Laws.{Resolves}
use Rattle.theory.specs.Tallies.{resolution}
use Rattle.theory.proofs.Defining.{resolves}
use Rattle.key.specs.Questions.{columns_of}
use Rattle.key.proofs.Key.resolution.Goals as goal

pub returns : goal.returns
returns c =
    let cs = columns_of c.args.self.now in
    let same = c.resolution.ensures ∙ ap resolution c.counts.ensures.columns in
    record { answer = same; least = subst (Resolves cs) (sym same) (resolves cs) }
