use Rattle.std.proofs.Common.{rules}
use Rattle.key.proofs.Soundness.{sign_laws}
use Rattle.key.proofs.Key.sign.Goals as goal

pub returns-then-not-has_word : goal.returns-then-not-has_word
returns-then-not-has_word c = record { answer = search rules; laws = sign_laws c.args.self.now }

pub returns-in_err-known_word : goal.returns-in_err-known_word
returns-in_err-known_word c = record { answer = search rules; laws = sign_laws c.args.self.now }

pub returns : goal.returns
returns c = record { answer = search rules; laws = sign_laws c.args.self.now }
