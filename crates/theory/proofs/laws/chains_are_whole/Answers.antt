use Rattle.theory.proofs.ChainLaws.{chain_fact}
use Rattle.theory.proofs.laws.chains_are_whole.Goals as goal

pub returns : goal.returns
returns c = chain_fact
