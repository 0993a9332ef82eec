use Rattle.std.proofs.Common.{ℕ, ◌∙◌, arith, length-append}
use Rattle.few.specs.Few.{items}
use Rattle.key.specs.Questions.{row_of}
use Rattle.text.proofs.Laws.{texts_more}
use Rattle.key.proofs.Rows.{plot_le}
use Rattle.key.proofs.Key.put_plot.Goals as goal

pub put_row-requires-clause-room : goal.put_row-requires-clause-room
put_row-requires-clause-room c =
    let rows = plot_le c.args.self.now c.args.plot c.loop-subplot.subplot c.requires.plot (omega arith) in
    rw c.loop-subplot.invariant (omega (arith, length-append {A = ℕ}))

pub loop-subplot-preserved : goal.loop-subplot-preserved
loop-subplot-preserved c = c.put_row.ensures ∙ rw c.loop-subplot.invariant (texts_more (row_of c.args.self.now c.args.plot) (items c.args.text.now) c.loop-subplot.subplot)
