use Rattle.finding.proofs.Standard.{listing_fact}
use Rattle.finding.proofs.all_standard_keys_are_listed.Goals as goal

pub returns : goal.returns
returns c = listing_fact
