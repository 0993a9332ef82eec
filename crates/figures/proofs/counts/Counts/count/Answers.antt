use Rattle.std.proofs.Common.{sym, inl, inr, ⊎_elim}
use Rattle.figures.proofs.Reading.{members_none}
use Rattle.figures.proofs.counts.Counts.count.Goals as goal

pub returns-then-word-ge32 : goal.returns-then-word-ge32
returns-then-word-ge32 c =
    sym (members_none c.args.self.now c.args.length c.args.word (⊎_elim inl (λ both. inr both.1) c.then-word-ge32.either))
