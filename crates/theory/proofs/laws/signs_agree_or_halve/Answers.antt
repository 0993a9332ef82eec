use Rattle.theory.proofs.Halves.{sign_fact}
use Rattle.theory.proofs.laws.signs_agree_or_halve.Goals as goal

pub returns : goal.returns
returns c = sign_fact
