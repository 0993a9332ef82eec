use Rattle.samples.proofs.Worked.{sample_fact}
use Rattle.samples.proofs.samples_hold.Goals as goal

pub returns : goal.returns
returns c = sample_fact
