use Rattle.theory.proofs.Twin.{twin_fact}
use Rattle.theory.proofs.laws.one_standard_twin.Goals as goal

pub returns : goal.returns
returns c = twin_fact
