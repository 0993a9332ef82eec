use Rattle.theory.proofs.Alikes.{alike_fact}
use Rattle.theory.proofs.laws.twins_are_alike.Goals as goal

pub returns : goal.returns
returns c = alike_fact
