-- The twin fact. Assumes nothing.
use Rattle.std.specs.Prelude.{◌≡◌, ℕ, List, length}
use Rattle.theory.specs.Keys.{Sound, Twins, Standard}

-- Every sound key has exactly one standard twin, whatever the layers.
abbrev pub TwinFact : Type 0
TwinFact =
    (ws ts cs : List ℕ) → Sound ws ts cs
    → (ds : List ℕ) × Standard ws ts ds × Twins ws (length ts) cs ds
    × ((es : List ℕ) → Standard ws ts es → Twins ws (length ts) cs es → es ≡ ds)
