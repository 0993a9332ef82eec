use Rattle.std.proofs.Common.{◌≡◌}
use Rattle.few.specs.Few.{items}
use Rattle.key.proofs.Members.{kept}
use Rattle.key.proofs.Key.members.Given as goal

-- those below the effect are gathered
abbrev pub invariant-loop-effect : goal.invariant-loop-effect
invariant-loop-effect l = items l.members ≡ kept l.self l.word l.effect
