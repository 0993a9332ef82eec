use Rattle.std.proofs.Common.{refl}
use Rattle.sheet.proofs.Step.{word_given, word_goes}
use Rattle.sheet.proofs.reader.walk.LineIterator.next.Goals as goal

pub returns-clause-steps : goal.returns-clause-steps
returns-clause-steps c =
    let read = c.in_ok-rest.ensures.lookup.0 in
    record {
      given = word_given c.args.self.now.bytes.now c.in_ok-rest.rest.now c.args.self.now.at c.up_to-n.result read.0 read.2 c.up_to-n.ensures.value;
      place = refl;
      line = refl;
      number = refl;
    }

pub returns-clause-goes : goal.returns-clause-goes
returns-clause-goes c = word_goes _ _ _ (returns-clause-steps c)
