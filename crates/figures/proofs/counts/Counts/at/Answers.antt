use Rattle.std.proofs.Common.{arith}
use Rattle.figures.proofs.Reading.{count_at, members_small}
use Rattle.figures.proofs.counts.Counts.at.Goals as goal

pub returns : goal.returns
returns c =
    let counts = c.args.self.now in
    let value = count_at counts c.args.word c.args.length c.requires.word c.requires.length in
    record { value = value; small = omega (arith, value, members_small counts c.args.length c.args.word) }
