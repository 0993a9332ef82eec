use Rattle.std.proofs.Common.{◌≡◌, Bool, cond, [], ◌∷◌, ◌++◌, sym, ap, ◌∙◌, subst, arith}
use Rattle.opening.specs.declared.Shape.{Shape}
use Rattle.figures.specs.Counted.{columns_in}
use Rattle.finding.specs.Walks.{Within}
use Rattle.finding.proofs.Columns.{next_within}
use Rattle.finding.proofs.Walking.{room, one_left}
use Rattle.finding.proofs.begun.Begun.place.Goals as goal

pub invariant_of-result : goal.invariant_of-result
invariant_of-result c =
    let begun = c.args.self.now in
    let counts = begun.counts in
    let column = c.args.column in
    let grown : columns_in c.place.result ≡ columns_in counts ++ column ∷ [] =
    c.place.ensures.columns ∙ ap (λ (b : Bool). cond b (columns_in counts ++ column ∷ []) (columns_in counts)) (room begun column c.requires.word) in
    let left = one_left begun column c.place.result c.place.ensures.shape grown in
    record {
      few = omega (arith, left, c.requires.few);
      within = subst (λ (sh : Shape). Within sh.w sh.s c.args.opened) (sym c.place.ensures.shape)
          (next_within counts.shape.w counts.shape.s counts.shape.n1 (columns_in counts) begun.opened column c.args.opened begun.within c.requires.next);
    }
