use Rattle.std.proofs.Common.{◌≡◌, ◌+◌, ◌*◌, ◌≤◌, sym, ap, ◌∙◌, arith}
use Rattle.theory.specs.Tallies.{members, sum_to}
use Rattle.figures.specs.Counted.{unmixed, unmixed_square}
use Rattle.figures.specs.Extended.{all_columns}
use Rattle.figures.proofs.Rooms.{word_small}
use Rattle.figures.proofs.Extending.{Summed, summed_yes, summed_no}
use Rattle.figures.proofs.counts.extension.Extension.unmixed_pairs.Goals as goal

pub at-requires-clause-word : goal.at-requires-clause-word
at-requires-clause-word c = let step = c.in-Some.ensures.steps in word_small c.args.self.now.counts.now.shape c.in-Some.word (omega arith)

pub at-pairs-requires-clause-word : goal.at-pairs-requires-clause-word
at-pairs-requires-clause-word c = let step = c.in-Some.ensures.steps in word_small c.args.self.now.counts.now.shape c.in-Some.word (omega arith)

-- one word more whose chain holds no main effect
counted : (c : goal.After-at-pairs) → let p = c.at-pairs.result in (c.loop-word.sum + p ≤ 45) × (p * p ≤ 45 * p) × Summed c.args.self.now c.args.words.start c.next.new.self.start (c.loop-word.sum + p) (c.loop-word.squares + p * p)
counted c =
    let cs = all_columns c.args.self.now in
    let step = c.in-Some.ensures.steps in
    summed_yes c.args.self.now c.args.words.start _ c.next.new.self.start c.loop-word.sum c.loop-word.squares (omega arith) step.1.2 c.loop-word.invariant.4
    c.at-pairs.result (sym (c.at.ensures ∙ ap (members cs 1) step.1.1) ∙ c.if-at-eq0.true) (c.at-pairs.ensures ∙ ap (members cs 2) step.1.1)

pub overflow_add-sum : goal.overflow_add-sum
overflow_add-sum c = omega (arith, (counted c).0)

pub overflow_mul-squares : goal.overflow_mul-squares
overflow_mul-squares c = omega (arith, (counted c).0, (counted c).1)

pub overflow_add-squares : goal.overflow_add-squares
overflow_add-squares c = omega (arith, (counted c).0, (counted c).2.2)

pub loop-word-preserved-then-at-eq0 : goal.loop-word-preserved-then-at-eq0
loop-word-preserved-then-at-eq0 c = let step = c.in-Some.ensures.steps in (tt, tt, omega arith, omega arith, (counted c).2)

pub loop-word-preserved : goal.loop-word-preserved
loop-word-preserved c =
    let step = c.in-Some.ensures.steps in (
      tt,
      tt,
      omega arith,
      omega arith,
      summed_no c.args.self.now c.args.words.start _ c.next.new.self.start c.loop-word.sum c.loop-word.squares (omega arith) step.1.2 c.loop-word.invariant.4
          (λ z. c.if-at-eq0.false (c.at.ensures ∙ ap (members (all_columns c.args.self.now) 1) step.1.1 ∙ z)),
    )

pub returns : goal.returns
returns c =
    let cs = all_columns c.args.self.now in
    let step = c.in-None.ensures.steps in
    let end : c.loop-word.word-iterator.start ≡ c.args.words.end = omega arith in
    record { sum = c.loop-word.invariant.4.0 ∙ ap (sum_to (unmixed cs)) end; squares = c.loop-word.invariant.4.1 ∙ ap (sum_to (unmixed_square cs)) end }
