-- What a `Few` holds. Assumes nothing.
use Rattle.std.specs.Prelude.{◌≡◌, ℕ, List, ◌∷◌, [], take, refl}
use Rattle.few.specs.declared.Few.{Few}

-- the values, in order; of the unused places no clause says anything
abbrev pub items : {T : Type 0} {CAP : ℕ} → Few T CAP → List T
items few = take few.size few.places
