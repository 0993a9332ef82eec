use Rattle.wishes.proofs.Turning.{bits_differ}
use Rattle.wishes.proofs.exchanging.Pair.exchanged_effect.Goals as goal

pub returns : goal.returns
returns c = bits_differ c.args.self.first c.args.self.second c.args.effect c.args.self.order c.args.self.within c.if-effect-self.false
