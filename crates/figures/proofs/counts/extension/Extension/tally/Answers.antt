use Rattle.std.proofs.Common.{pow_pos, ◌≡◌, ℕ, ◌+◌, ◌^◌, ◌<◌, List, ap, ◌∙◌, sym, get_or, arith}
use Rattle.theory.specs.Tallies.{sum_to, tally}
use Rattle.opening.specs.Shapes.{units_of}
use Rattle.figures.specs.Counted.{unmixed, unmixed_square}
use Rattle.figures.specs.Extended.{all_columns}
use Rattle.figures.proofs.Extending.{words_more}
use Rattle.figures.proofs.Rows.{at_row}
use Rattle.figures.proofs.Layers.{plots_le, whole_pairs, whole_squares, sub_pairs, sub_squares}
use Rattle.figures.proofs.counts.extension.Extension.tally.Goals as goal

pub unmixed_pairs-m1-requires-clause-words : goal.unmixed_pairs-m1-requires-clause-words
unmixed_pairs-m1-requires-clause-words c = omega (arith, plots_le c.args.self.now.counts.now.shape)

pub unmixed_pairs-m2-requires-clause-rising : goal.unmixed_pairs-m2-requires-clause-rising
unmixed_pairs-m2-requires-clause-rising c = omega (arith, plots_le c.args.self.now.counts.now.shape, pow_pos c.args.self.now.counts.now.shape.w)

pub returns : goal.returns
unfolding tally
returns c =
    let shape = c.args.self.now.counts.now.shape in
    let cs = all_columns c.args.self.now in
    let words = words_more c.args.self.now in
    let plots : c.from-plots.result ≡ 2 ^ shape.w = omega arith in
    let runs : c.from-runs.result ≡ 2 ^ units_of shape = omega arith in
    let upto = λ (f : ℕ → ℕ). ap (sum_to f) plots in
    let between = λ (f : ℕ → ℕ) (n : ℕ). ap (λ (v : ℕ). sum_to f v + n) (sym plots) in
    let all = λ (f : ℕ → ℕ). ap (sum_to f) runs in
    let m1 = whole_pairs shape.w shape.s cs words c.unmixed_pairs-m1.result.0 (c.unmixed_pairs-m1.ensures.sum ∙ upto (unmixed cs)) in
    let q1 = whole_squares shape.w shape.s cs words c.unmixed_pairs-m1.result.1 (c.unmixed_pairs-m1.ensures.squares ∙ upto (unmixed_square cs)) in
    let m2 = sub_pairs shape.w shape.s cs words c.unmixed_pairs-m2.result.0 (between (unmixed cs) c.unmixed_pairs-m2.result.0 ∙ c.unmixed_pairs-m2.ensures.sum ∙ all (unmixed cs)) in
    let q2 = sub_squares shape.w shape.s cs words c.unmixed_pairs-m2.result.1 (between (unmixed_square cs) c.unmixed_pairs-m2.result.1 ∙ c.unmixed_pairs-m2.ensures.squares ∙ all (unmixed_square cs)) in
    let a = λ (j : ℕ) (h : j < 11). ap (λ (row : List ℕ). get_or row j 0) c.row.ensures ∙ at_row cs 0 j h in
    cc (a 3 (omega arith), a 4 (omega arith), a 5 (omega arith), a 6 (omega arith), a 7 (omega arith), a 8 (omega arith), a 9 (omega arith), a 10 (omega arith), m1, m2, q1, q2)
