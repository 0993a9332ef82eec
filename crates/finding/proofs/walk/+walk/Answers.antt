use Rattle.std.proofs.Common.{ℕ, ◌^◌, ◌<◌, true, false, List, ◌++◌, refl, sym, ◌∙◌, subst, subst₂, append-nil, arith}
use Rattle.opening.specs.declared.Shape.{Shape}
use Rattle.opening.specs.Shapes.{units_of}
use Rattle.finding.specs.Walks.{keys_after, branch_after, upto}
use Rattle.finding.proofs.Walking.{step, room, branches, none_late, all_begin, no_branch, last_branch, some_branch}
use Rattle.finding.proofs.walk.+walk.Goals as goal
use Rattle.finding.proofs.walk.+walk.Goals.{then-is_late-via-then-is_late, then-is_late-via-else-is_late+then-leave, in-Some+then-left-gt1, in-Some+else-left-gt1+then-is_all, in-Some+else-left-gt1+else-is_all, in_default}

pub returns-then-is_late : goal.returns-then-is_late
returns-then-is_late g t c u keys h =
    let begun = c.args.begun.now in
    elim c.then-is_late.branch [
      | then-is_late-via-then-is_late w ↦ subst (λ ks. g.V.Visit.saw begun.counts.shape u ks c.args.visitor.now) (none_late begun keys (sym c.is_late.ensures ∙ w.if-is_late.true)) h
      | then-is_late-via-else-is_late+then-leave w ↦ w.if-leave.ensures refl u keys (keys_after begun.counts begun.opened) (all_begin begun) h
    ]

pub loop-column-preserved : goal.loop-column-preserved
loop-column-preserved g t c u keys h =
    let begun = c.args.begun.now in
    let column : ℕ = c.loop-column.column in
    let so_far : List (List ℕ) = keys ++ upto (branch_after begun.counts begun.opened) column in
    let was = c.loop-column.invariant u keys h in
    let saw : Shape → List (List ℕ) → g.row.V.Denot → Type 0 = λ sh ks v. g.V.Visit.saw sh u ks v in
    elim c.match-next.branch [
      | in-Some+then-left-gt1 w ↦
          let more = w.place.result in
          step (saw begun.counts.shape) (branch_after begun.counts begun.opened) column keys (some_branch begun column more.counts w.place.ensures.shape w.place.ensures.columns w.in-Some.opened (sym c.next.ensures ∙ w.in-Some.is)) w.visitor-is
          (subst₂ (λ sh p. saw sh so_far c.loop-column.visitor → saw sh (so_far ++ keys_after more.counts p) w.walk.new.visitor) w.place.ensures.shape w.place.ensures.opened (w.walk.ensures u so_far) was)
      | in-Some+else-left-gt1+then-is_all w ↦
          let fits = room begun column (subst (λ (sh : Shape). column < 2 ^ units_of sh) c.shape-shape.ensures (omega (arith, c.runs-column-end.ensures))) in
          step (saw begun.counts.shape) (branch_after begun.counts begun.opened) column keys (last_branch begun column w.in-Some.opened (sym c.next.ensures ∙ w.in-Some.is) (omega (arith, w.left.ensures)) c.shape-shape.result c.shape-shape.ensures true (sym w.if-is_all.true ∙ w.is_all.ensures))
          w.visitor-is (w.visit.ensures u so_far fits was)
      | in-Some+else-left-gt1+else-is_all w ↦
          step (saw begun.counts.shape) (branch_after begun.counts begun.opened) column keys (last_branch begun column w.in-Some.opened (sym c.next.ensures ∙ w.in-Some.is) (omega (arith, w.left.ensures)) c.shape-shape.result c.shape-shape.ensures false (sym w.if-is_all.false ∙ w.is_all.ensures))
          w.visitor-is (rw append-nil was)
      | in_default w ↦ step (saw begun.counts.shape) (branch_after begun.counts begun.opened) column keys (no_branch begun column (sym c.next.ensures ∙ w.in_default.is)) w.visitor-is (rw append-nil was)
    ]

pub returns : goal.returns
returns g t c u keys h =
    let begun = c.args.begun.now in
    subst (λ ks. g.V.Visit.saw begun.counts.shape u (keys ++ ks) c.loop-column.visitor)
    (branches begun c.loop-column.column c.shape-shape.result c.shape-shape.ensures (omega (arith, c.runs-column-end.ensures))) (c.loop-column.invariant u keys h)
