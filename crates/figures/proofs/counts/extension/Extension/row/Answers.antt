use Rattle.figures.proofs.Reading.{row_at}
use Rattle.figures.proofs.counts.extension.Extension.row.Goals as goal

pub extend-requires-clause-without : goal.extend-requires-clause-without
extend-requires-clause-without c = row_at c.args.self.now.counts.now c.args.word c.requires
