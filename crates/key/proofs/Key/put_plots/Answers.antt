use Rattle.std.proofs.Common.{[], ◌+◌, ◌*◌, ◌^◌, ◌∙◌, arith}
use Rattle.key.specs.Questions.{plot_of}
use Rattle.text.proofs.Laws.{texts_more, length_texts}
use Rattle.key.proofs.Rows.{plot_le, plots_le}
use Rattle.key.proofs.Key.put_plots.Goals as goal

pub put_plot-requires-clause-room : goal.put_plot-requires-clause-room
put_plot-requires-clause-room c =
    let key = c.args.self.now in
    let s = key.shape.s in
    let p = c.loop-plot.plot in
    let rows = length_texts (plot_of key) (17 * 2 ^ s) p (λ i l. plot_le key i (2 ^ s) (omega arith) (omega arith)) in
    let few = plots_le key.shape.w s (p + 1) (omega arith) (omega arith) in
    rw c.loop-plot.invariant (omega arith)

pub loop-plot-preserved : goal.loop-plot-preserved
loop-plot-preserved c = c.put_plot.ensures ∙ rw c.loop-plot.invariant (texts_more (plot_of c.args.self.now) [] c.loop-plot.plot)
