use Rattle.sheet.proofs.Whole.{lines_stand_lem}
use Rattle.sheet.proofs.reader.walk.lines_stand.Goals as goal

pub returns : goal.returns
returns c = lines_stand_lem
