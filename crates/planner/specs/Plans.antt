-- Plans that stand. Assumes nothing.
use Rattle.std.specs.Prelude.{ℕ, Some, None, Option}
use Rattle.opening.specs.Shapes.{factors_of}
use Rattle.key.specs.declared.Key.{Key}

-- how many factors the plan has, or n where none stands
abbrev pub factors_or : ℕ → Option Key → ℕ
factors_or n None = n
factors_or n (Some plan) = factors_of plan.shape
