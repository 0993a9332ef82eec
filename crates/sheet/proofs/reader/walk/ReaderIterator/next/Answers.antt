use Rattle.std.proofs.Common.{◌+◌, refl, ap, rules}
use Rattle.std.proofs.lemmas.List.{drop_all, length-take-le}
use Rattle.sheet.specs.Cuts.{lines, numbered}
use Rattle.sheet.proofs.Step.{line_step, line_left, line_goes}
use Rattle.sheet.proofs.reader.walk.ReaderIterator.next.Goals as goal

pub returns-then-self-clause-steps : goal.returns-then-self-clause-steps
returns-then-self-clause-steps c =
    let none = ap (λ xs. numbered (c.args.self.now.line + 1) (lines xs)) (drop_all _ _ c.if-self.true) in
    record {
      given = (none, none);
      whole = refl;
      sheet = refl;
      rest = refl;
    }

pub returns-then-self-clause-goes : goal.returns-then-self-clause-goes
returns-then-self-clause-goes c = line_goes _ _ _ (returns-then-self-clause-steps c)

pub returns-clause-steps : goal.returns-clause-steps
returns-clause-steps c = record {
  given = ap (numbered (c.args.self.now.line + 1)) (line_step _ _ _ _ _ c.if-self.false refl c.up_to-n.ensures.value c.min-self.ensures);
  whole = (search rules, search rules);
  sheet = search rules;
  rest = rw (length-take-le c.up_to-n.result _ c.up_to-n.ensures.within) (line_left _ _ _ _ c.min-self.ensures);
}

pub returns-clause-goes : goal.returns-clause-goes
returns-clause-goes c = line_goes _ _ _ (returns-clause-steps c)
