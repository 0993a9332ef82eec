-- The number of each refusal. Assumes nothing.
use Rattle.std.specs.Prelude.{ℕ}
use Rattle.theory.specs.declared.refusal.Refusal.{Refusal}
use Rattle.theory.specs.declared.refusal.Refusal.TheVariants.{WholePlotUnits, SubplotUnits, WholePlotFactors, SubplotFactors, FactorCount, WeightLimits, WishKind, WishForm, WishStands, WishesFull, WishAbsent, NoKey, NoPlan, NoRun, NoEffect, ShortBuffer}

abbrev pub refusal_number : Refusal → ℕ
refusal_number WholePlotUnits = 1
refusal_number SubplotUnits = 2
refusal_number WholePlotFactors = 3
refusal_number SubplotFactors = 4
refusal_number FactorCount = 5
refusal_number WeightLimits = 6
refusal_number WishKind = 11
refusal_number WishForm = 12
refusal_number WishStands = 13
refusal_number WishesFull = 14
refusal_number WishAbsent = 15
refusal_number NoKey = 21
refusal_number NoPlan = 22
refusal_number NoRun = 23
refusal_number NoEffect = 24
refusal_number ShortBuffer = 25
