use Rattle.std.proofs.Common.{ℕ, ◌+◌, ◌/◌, drop, sym, ap, ◌∙◌}
use lib.Bits.{bit_xor}
use Rattle.theory.specs.Words.{alias}
use Rattle.figures.proofs.Products.{step_in, step_out, step_all}
use Rattle.figures.proofs.alias.product.Goals as goal
use Rattle.figures.proofs.alias.product.Goals.{then-rest-eq1, else-rest-eq1}

pub loop-column-preserved : goal.loop-column-preserved
loop-column-preserved c =
    let i = c.loop-column.column-index in
    let cs = c.args.columns.now in
    let word = c.loop-column.word in
    let rest = c.loop-column.rest in
    let after : ℕ → ℕ = λ x. bit_xor x (alias (drop (i + 1) cs) (rest / 2)) in
    elim c.if-rest-eq1.branch [
      | then-rest-eq1 w ↦ ap after w.word-is ∙ step_in cs i word rest c.loop-column-test.true w.if-rest-eq1.true ∙ c.loop-column.invariant
      | else-rest-eq1 w ↦ ap after w.word-is ∙ step_out cs i word rest c.loop-column-test.true w.if-rest-eq1.false ∙ c.loop-column.invariant
    ]

pub returns : goal.returns
returns c =
    sym (step_all c.args.columns.now c.loop-column.column-index c.loop-column.word c.loop-column.rest c.loop-column-test.false)
    ∙ c.loop-column.invariant
