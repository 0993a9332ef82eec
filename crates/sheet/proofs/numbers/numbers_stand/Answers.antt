use Rattle.sheet.proofs.Decimal.{numbers_fact}
use Rattle.sheet.proofs.numbers.numbers_stand.Goals as goal

pub returns : goal.returns
returns c = numbers_fact
