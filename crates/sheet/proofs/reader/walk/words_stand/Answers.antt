use Rattle.sheet.proofs.Whole.{words_stand_lem}
use Rattle.sheet.proofs.reader.walk.words_stand.Goals as goal

pub returns : goal.returns
returns c = words_stand_lem
