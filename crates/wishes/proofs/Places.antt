-- The places of the wishes that stand.
use Rattle.std.proofs.Common.{◌≡◌, ℕ, ◌≤◌, true, length, arith}
use Rattle.std.specs.Coded.{Coded-set, coded_bool, le_prop}
use Rattle.std.proofs.Math.Path.{PathP, to_path_p}
use Rattle.std.proofs.lemmas.List.{length-take-le}
use Rattle.few.specs.Few.{items}
use Rattle.few.specs.declared.Few.{Few}
use Rattle.opening.specs.Shapes.{factors_of}
use Rattle.theory.specs.declared.wish.Wish.{Wish}
use Rattle.wishes.specs.declared.standing.Standing.{Standing}
use Rattle.wishes.specs.Lists.{all_formed, distinct}
use Rattle.wishes.specs.Standings.{wishes_in}

-- as many as there are places in use
pub length_items : {room : ℕ} (wishes : Few Wish room) → length (items wishes) ≡ wishes.size
length_items wishes = length-take-le wishes.size wishes.places (omega (arith, wishes.few, wishes.long))

pub standing_length : (standing : Standing) → length (wishes_in standing) ≡ standing.wishes.size
standing_length standing = length_items standing.wishes

-- one with the same shape and the same places is the same
pub same_standing : (a b : Standing) → a.shape ≡ b.shape → a.wishes ≡ b.wishes → a ≡ b
same_standing a b s w = λ i. record { shape = s i; wishes = w i; few = few_over i; formed = formed_over i; once = once_over i }
  where
    Few_here : 𝕀 → Type 0
    Few_here = λ i. length (items (w i)) ≤ 12

    Formed_here : 𝕀 → Type 0
    Formed_here = λ i. all_formed (factors_of (s i)) (items (w i)) ≡ true

    Once_here : 𝕀 → Type 0
    Once_here = λ i. distinct (items (w i)) ≡ true

    few_over : PathP Few_here a.few b.few
    few_over = to_path_p Few_here (le_prop _ b.few)

    formed_over : PathP Formed_here a.formed b.formed
    formed_over = to_path_p Formed_here (Coded-set coded_bool _ _ _ b.formed)

    once_over : PathP Once_here a.once b.once
    once_over = to_path_p Once_here (Coded-set coded_bool _ _ _ b.once)
