use Rattle.figures.proofs.Extending.{Extended}
use Rattle.figures.proofs.counts.extension.Extension.extend.Given as goal

abbrev pub invariant-loop-length : goal.invariant-loop-length
invariant-loop-length l = Extended l.self l.word l.length l.row
