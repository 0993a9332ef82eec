use Rattle.std.proofs.Common.{ℕ, ◌+◌, ◌-◌, ap, ◌∙◌, sym, ap₂, subst, ◌<◌}
use lib.Bits.{bit_xor}
use Rattle.theory.specs.Tallies.{members}
use Rattle.figures.specs.Counted.{columns_in}
use Rattle.figures.specs.Extended.{all_columns}
use Rattle.figures.proofs.Extending.{members_mean, members_more, other_word}
use Rattle.figures.proofs.counts.extension.Extension.at.Goals as goal

pub returns-then-length-eq0 : goal.returns-then-length-eq0
returns-then-length-eq0 c =
    let e = c.args.self.now in
    let at = λ (j : ℕ). members (columns_in e.counts.now) j c.args.word in
    c.at-without.ensures.value ∙ ap at c.if-length-eq0.true ∙ members_mean e c.args.word ∙ ap (λ (j : ℕ). members (all_columns e) j c.args.word) (sym c.if-length-eq0.true)

pub at-requires-clause-word : goal.at-requires-clause-word
at-requires-clause-word c = subst (λ (x : ℕ). bit_xor c.args.word x < 32) (sym c.from.ensures) (other_word c.args.self.now c.args.word c.requires.word)

pub returns : goal.returns
returns c =
    let e = c.args.self.now in
    ap₂ (λ (x y : ℕ). x + y) c.at-without.ensures.value (c.at.ensures.value ∙ ap (λ (x : ℕ). members (columns_in e.counts.now) (c.args.length - 1) (bit_xor c.args.word x)) c.from.ensures)
    ∙ members_more e c.args.length c.args.word c.if-length-eq0.false
