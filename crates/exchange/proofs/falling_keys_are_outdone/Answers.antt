use Rattle.exchange.proofs.Outdoing.{exchange_fact}
use Rattle.exchange.proofs.falling_keys_are_outdone.Goals as goal

pub returns : goal.returns
returns c = exchange_fact
