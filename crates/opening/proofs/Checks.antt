-- What checks grant. Assumes nothing.
use Rattle.std.proofs.Common.{◌≡◌, Bool, true, false, List, [], ◌∷◌, Ok, refl}
use Rattle.theory.specs.declared.refusal.Refusal.{Refusal}
use Rattle.opening.specs.Shapes.{granted}

-- where the first check grants something, the others decide
pub granted_next : {A B : Type 0} (check : Bool) (why : Refusal) (checks : List (Bool × Refusal)) (x : A) (y z : B) → granted ((check, why) ∷ []) y ≡ Ok z → granted ((check, why) ∷ checks) x ≡ granted checks x
granted_next true why checks x y z e = refl
granted_next false why checks x y z e = cc
