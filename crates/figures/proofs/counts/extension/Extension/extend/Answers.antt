use Rattle.std.proofs.Common.{◌≡◌, ℕ, ◌<◌, ◌+◌, ◌-◌, ◌≤◌, [], get_or, set, sym, ap, subst, arith}
use lib.Bits.{bit_xor}
use Rattle.figures.proofs.Extending.{other_word, Extended, extended_from, extended_small, extended_more, extended_to}
use Rattle.figures.proofs.counts.extension.Extension.extend.Goals as goal

pub bounds-self-word : goal.bounds-self-word
bounds-self-word c = subst (λ (x : ℕ). bit_xor c.args.word x < 32) (sym c.from.ensures) (other_word c.args.self.now c.args.word c.requires.word)

pub loop-length-init : goal.loop-length-init
loop-length-init c = extended_from c.args.self.now c.args.word c.args.row.now c.requires.without

pub overflow_add-row : goal.overflow_add-row
overflow_add-row c =
    let sum : ℕ → ℕ = λ (x : ℕ). get_or c.loop-length.row c.loop-length.length 0 + get_or (get_or c.args.self.now.counts.now.table (bit_xor c.args.word x) []) (c.loop-length.length - 1) 0 in
    let small : sum c.args.self.now.column ≤ 2048 = extended_small c.args.self.now c.args.word c.loop-length.length c.loop-length.row c.requires.word (omega arith) (omega arith) c.loop-length.invariant in
    omega (arith, small, ap sum c.from.ensures)

pub loop-length-preserved : goal.loop-length-preserved
loop-length-preserved c =
    let e = c.args.self.now in
    let row = c.loop-length.row in
    let end = c.loop-length.length in
    subst (λ (x : ℕ). Extended e c.args.word (end + 1) (set row end (get_or row end 0 + get_or (get_or e.counts.now.table (bit_xor c.args.word x) []) (end - 1) 0))) (sym c.from.ensures)
    (extended_more e c.args.word end row c.requires.word (omega arith) (omega arith) c.loop-length.invariant)

pub returns : goal.returns
returns c =
    let end : c.loop-length.length ≡ 11 = omega arith in
    extended_to c.args.self.now c.args.word c.loop-length.row (subst (λ (n : ℕ). Extended c.args.self.now c.args.word n c.loop-length.row) end c.loop-length.invariant)
