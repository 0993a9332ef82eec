use Rattle.theory.proofs.Even.{even_fact}
use Rattle.theory.proofs.laws.subplot_factors_are_even.Goals as goal

pub returns : goal.returns
returns c = even_fact
