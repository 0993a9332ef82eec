use Rattle.theory.proofs.Fronts.{formed_fact}
use Rattle.theory.proofs.laws.formed_is_tested.Goals as goal

pub returns : goal.returns
returns c = formed_fact
