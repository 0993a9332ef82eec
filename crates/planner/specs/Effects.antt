-- The number of each effect on the plan. Assumes nothing.
use Rattle.std.specs.Prelude.{ℕ}
use Rattle.planner.specs.declared.effect.Effect.{Effect}
use Rattle.planner.specs.declared.effect.Effect.TheVariants.{NoPlan, Stays, Falls}

abbrev pub effect_number : Effect → ℕ
effect_number NoPlan = 0
effect_number Stays = 1
effect_number Falls = 2
