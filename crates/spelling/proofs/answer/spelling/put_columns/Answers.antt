use Rattle.std.proofs.Common.{ℕ, get_or, ◌∙◌, arith, length-append}
use Rattle.few.specs.Few.{items}
use Rattle.text.proofs.Laws.{texts_more}
use Rattle.spelling.specs.Spelled.{column_text}
use Rattle.spelling.proofs.Lengths.{columns_le}
use Rattle.spelling.proofs.answer.spelling.put_columns.Goals as goal

pub put_column-requires : goal.put_column-requires
put_column-requires c =
    let cs = c.args.columns.now in
    let short = columns_le c.args.n1 cs c.loop-factor.factor (λ i l. (c.type_inv.columns i).fits) in
    rw c.loop-factor.invariant (omega (arith, length-append {A = ℕ}))

pub loop-factor-preserved : goal.loop-factor-preserved
loop-factor-preserved c =
    c.put_column.ensures ∙ rw c.loop-factor.invariant (texts_more (λ i. column_text c.args.n1 i (get_or c.args.columns.now i 0)) (items c.args.text.now) c.loop-factor.factor)
