use Rattle.theory.proofs.Fronts.{front_fact}
use Rattle.theory.proofs.laws.first_columns_decide.Goals as goal

pub returns : goal.returns
returns c = front_fact
