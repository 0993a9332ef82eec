use Rattle.std.proofs.Common.{ℕ, ◌+◌, ◌*◌, ◌<◌, ap, arith}
use Rattle.key.proofs.Rows.{run_lt}
use Rattle.key.proofs.layouts.run_in.Goals as goal

small : (c : goal.After-plots) → c.args.plot + c.plots.result * c.args.subplot < 32
small c =
    let shape = c.args.shape in
    omega (arith, run_lt shape.w shape.s c.args.plot c.args.subplot c.requires.plot c.requires.subplot (omega arith), ap (λ (n : ℕ). n * c.args.subplot) c.plots.ensures)

pub overflow_mul-result : goal.overflow_mul-result
overflow_mul-result c = omega (arith, small c)

pub overflow_add-result : goal.overflow_add-result
overflow_add-result c = omega (arith, small c)
