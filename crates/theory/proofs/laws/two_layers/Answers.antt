use Rattle.theory.proofs.Plots.{two_layers_lem}
use Rattle.theory.proofs.laws.two_layers.Goals as goal

pub returns : goal.returns
returns c = two_layers_lem
