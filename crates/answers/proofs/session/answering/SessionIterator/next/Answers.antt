use Rattle.answers.proofs.Turns.{Reads, turn_gives, turn_goes}
use Rattle.answers.proofs.session.answering.SessionIterator.next.Goals as goal

pub returns-in_ok-line-in_default : goal.returns-in_ok-line-in_default
returns-in_ok-line-in_default c =
    let before = c.args.self.now in
    let reads : Reads before.stage = record { not_over = c.in_default.not-Over; not_unread = c.in_default.not-Unread } in
    let gives = c.in_ok-line-in_default.ensures.steps in
    record {
      steps = turn_gives before c.tell-in_default.new.self _ _ c.read.result _ reads gives c.read.ensures c.tell-in_default.ensures.told c.tell-in_default.ensures.reader;
      goes = turn_goes before c.tell-in_default.new.self _ _ c.read.result _ reads gives c.read.ensures c.tell-in_default.ensures.told c.tell-in_default.ensures.reader;
    }
