use Rattle.std.proofs.Common.{rules, ◌≡◌, length, sym, ap, ◌∙◌, subst, arith}
use Rattle.std.proofs.lemmas.List.{length_push}
use Rattle.few.specs.Few.{items}
use Rattle.theory.specs.Keys.{Words}
use Rattle.opening.specs.Shapes.{layers_of}
use Rattle.figures.specs.Rows.{row_of, table_of}
use Rattle.figures.specs.declared.counts.Counts.{Counts}
use Rattle.figures.specs.Counted.{columns_in}
use Rattle.figures.specs.Extended.{all_columns}
use Rattle.figures.proofs.Rooms.{room_few}
use Rattle.figures.proofs.Rows.{length_table, table_is}
use Rattle.figures.proofs.Reading.{row_at}
use Rattle.figures.proofs.Extending.{words_more}
use Rattle.figures.proofs.counts.extension.Extension.add_to.Goals as goal

pub loop-word-init : goal.loop-word-init
loop-word-init c =
    let counts = c.args.counts.now in (
      ap length counts.counted ∙ length_table (columns_in counts),
      λ v h. absurd (omega arith),
      λ v l h. row_at counts v h ∙ ap (λ (of : Counts). row_of (columns_in of) v) c.requires,
    )

pub invariant_of-counts : goal.invariant_of-counts
invariant_of-counts c =
    let e = c.args.self.now in
    let placed : items c.push.new.self ≡ all_columns e = search rules in
    record {
      few = omega (arith, ap length placed, length_push (columns_in e.counts.now) e.column, room_few e.counts.now e.column e.room);
      words = subst (λ (of : Counts). Words (layers_of of.shape) (items c.push.new.self)) (sym c.requires) (subst (Words (layers_of e.counts.now.shape)) (sym placed) (words_more e));
      counted = table_is c.loop-word.row-items (all_columns e) c.loop-word.invariant.0 (λ v h. c.loop-word.invariant.1 v (omega arith)) ∙ ap table_of (sym placed);
    }
