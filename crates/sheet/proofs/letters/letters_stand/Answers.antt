use Rattle.sheet.proofs.Back.{letters_stand_lem}
use Rattle.sheet.proofs.letters.letters_stand.Goals as goal

pub returns : goal.returns
returns c = letters_stand_lem
