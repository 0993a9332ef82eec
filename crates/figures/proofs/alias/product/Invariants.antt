use Rattle.std.proofs.Common.{◌≡◌, drop}
use lib.Bits.{bit_xor}
use Rattle.theory.specs.Words.{alias}
use Rattle.figures.proofs.alias.product.Given as goal

-- the columns left, at what is left of the effect, give the rest of the alias
abbrev pub invariant-loop-column : goal.invariant-loop-column
invariant-loop-column l = bit_xor l.word (alias (drop l.column-index l.columns) l.rest) ≡ alias l.columns l.effect
