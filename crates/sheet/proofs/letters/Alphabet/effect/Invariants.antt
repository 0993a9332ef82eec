use Rattle.std.proofs.Common.{◌≡◌, ◌^◌, ◌<◌, ◌≤◌, drop}
use Rattle.sheet.specs.Letters.{factor, join_on}
use Rattle.sheet.proofs.letters.Alphabet.effect.Given as goal

abbrev pub invariant-loop-letter : goal.invariant-loop-letter
invariant-loop-letter l =
    (join_on (factor l.self) l.next l.effect (drop l.letter-index l.bytes) ≡ join_on (factor l.self) 0 0 l.bytes)
    × (l.effect < 2 ^ l.next)
    × (l.next ≤ 16)
