use Rattle.std.proofs.Common.{ℕ, List, length, sym, ap, ◌∙◌}
use Rattle.std.proofs.lemmas.Bool.Decides.{when_true}
use Rattle.opening.specs.Shapes.{layers_of}
use Rattle.theory.specs.Wishes.{formed, Meets}
use Rattle.theory.proofs.Fronts.{formed_fact}
use Rattle.figures.specs.Counted.{columns_in}
use Rattle.wishes.proofs.Failing.{fails_for_all}
use Rattle.wishes.proofs.meeting.fails.Goals as goal

pub returns-then-is_formed-clause-front : goal.returns-then-is_formed-clause-front
returns-then-is_formed-clause-front c unmet =
    let ws = layers_of c.args.counts.now.shape in
    let cs = columns_in c.args.counts.now in
    let wish = c.args.wish in
    let of = (formed_fact (length cs) wish).0 (ap (λ (xs : List ℕ). formed (length xs) wish) (sym c.columns.ensures) ∙ sym c.if-is_formed.ensures) in
    fails_for_all ws cs wish (of, when_true (Meets ws cs wish → ⊥) (Meets ws cs wish) unmet c.is_unmet.ensures)
