-- The columns of a key, placed one after another.
use Rattle.std.proofs.Common.{◌≡◌, ℕ, ◌^◌, ◌<◌, ◌≤◌, true, cond, List, [], ◌∷◌, ◌++◌, length, sym, ap, ◌∙◌, subst, arith}
use Rattle.std.proofs.lemmas.List.{length_push, get_or_append_left, get_or_push}
use Rattle.std.proofs.lemmas.Bool.{cond-true}
use Rattle.theory.specs.Words.{total}
use Rattle.theory.specs.Keys.{Words}
use Rattle.opening.specs.Shapes.{layers_of, units_of}
use Rattle.opening.specs.declared.Shape.{Shape}
use Rattle.figures.specs.Counted.{columns_in, room_for}
use Rattle.figures.specs.declared.counts.Counts.{Counts}
use Rattle.figures.proofs.Rooms.{room_from}

-- the words of all but the last column, and the last
module _ (ws cs : List ℕ) (c : ℕ) (words : Words ws (cs ++ c ∷ [])) where
  pub front_words : Words ws cs
  front_words i l = subst (λ (x : ℕ). x < 2 ^ total ws) (get_or_append_left cs (c ∷ []) 0 i l) (words i (omega (arith, length_push cs c)))

  last_word : c < 2 ^ total ws
  last_word = subst (λ (x : ℕ). x < 2 ^ total ws) (get_or_push cs c 0 (length cs) (omega arith)) (words (length cs) (omega (arith, length_push cs c)))

-- counts of all but the last have room for it
pub last_room : (counts : Counts) (shape : Shape) (cs : List ℕ) (c : ℕ) → counts.shape ≡ shape → columns_in counts ≡ cs → length (cs ++ c ∷ []) ≤ 10 → Words (layers_of shape) (cs ++ c ∷ [])
    → room_for counts c ≡ true
last_room counts shape cs c same front few words =
    room_from counts c (omega (arith, ap length front, length_push cs c)) (subst (λ (sh : Shape). c < 2 ^ units_of sh) (sym same) (last_word (layers_of shape) cs c words))

-- Counts are of the shape, and of the columns where these are ten words at most.
abbrev pub Counts-of : Shape → List ℕ → Counts → Type 0
Counts-of shape cs counts = (counts.shape ≡ shape) × (length cs ≤ 10 → Words (layers_of shape) cs → columns_in counts ≡ cs)

-- with one column more
pub Counts-of_more : (shape : Shape) (cs : List ℕ) (c : ℕ) (old new : Counts) → Counts-of shape cs old → new.shape ≡ old.shape → columns_in new ≡ cond (room_for old c) (columns_in old ++ c ∷ []) (columns_in old)
    → Counts-of shape (cs ++ c ∷ []) new
Counts-of_more shape cs c old new so same placed = (
  same ∙ so.0,
  λ few words.
      let front = so.1 (omega (arith, length_push cs c)) (front_words (layers_of shape) cs c words) in
      placed ∙ cond-true (room_for old c) (columns_in old ++ c ∷ []) (columns_in old) (last_room old shape cs c so.0 front few words) ∙ ap (λ (ds : List ℕ). ds ++ c ∷ []) front,
)
