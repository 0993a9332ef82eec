-- What one call gives of what is left. Assumes nothing.
use Rattle.std.proofs.Common.{◌≡◌, ℕ, suc, ◌+◌, ◌<◌, ◌≤◌, min, Bool, true, false, cond, not, eqb, leb, List, [], ◌∷◌, length, take, drop, Some, None, Option, sym, refl, ap, ◌∙◌, ⊎_elim, arith, length-drop, le-leb}
use Rattle.std.specs.Bool.{⊤}
use Rattle.std.specs.Iterator.{MakesProgress, item_count}
use Rattle.std.specs.List.{slice_range}
use Rattle.std.proofs.lemmas.List.{drop-drop, drop_all, take_rest}
use Rattle.std.proofs.lemmas.List.Folds.{length-prefix_len}
use Rattle.std.proofs.lemmas.Bool.Decides.{nat_tests}
use Rattle.std.proofs.str.Laws.{order}
use Rattle.sheet.specs.Cuts.{length_up_to, pieces, words, lines, on_first, placed}
use Rattle.sheet.specs.Left.{words_from, lines_left, words_left, GivesLine, GivesWord}
use Rattle.sheet.specs.declared.reader.Line.{Line}
use Rattle.sheet.specs.declared.reader.Reader.{Reader}
use Rattle.sheet.specs.declared.token.Part.{Part}

pieces_step : (b : ℕ) (xs : List ℕ) → pieces b xs ≡ take (length_up_to b xs) xs ∷ cond (leb (length_up_to b xs + 1) (length xs)) (pieces b (drop (length_up_to b xs + 1) xs)) []
pieces_step b [] = refl
pieces_step b (x ∷ xs) = at (pieces_step b xs) (eqb x b)
  where
    n : ℕ
    n = length_up_to b xs

    at : pieces b xs ≡ take n xs ∷ cond (leb (n + 1) (length xs)) (pieces b (drop (n + 1) xs)) [] → (t : Bool) → cond t ([] ∷ pieces b xs) (on_first x (pieces b xs)) ≡ take (cond (not t) (1 + n) 0) (x ∷ xs) ∷ cond (leb (cond (not t) (1 + n) 0 + 1) (suc (length xs))) (pieces b (drop (cond (not t) (1 + n) 0 + 1) (x ∷ xs))) []
    at ih true = rw (le-leb 1 (suc (length xs)) (omega arith))
    at ih false =
        let test : leb (1 + n + 1) (suc (length xs)) ≡ leb (n + 1) (length xs) = grind (arith, nat_tests) in
        let far : 1 + n + 1 ≡ suc (n + 1) = omega arith in
        let one : 1 + n ≡ suc n = omega arith in
        rw (test, far, one, ih)

one_more : (x : ℕ) (xs : List ℕ) → on_first x (lines xs) ≡ (x ∷ take (length_up_to 10 xs) xs) ∷ lines (drop (length_up_to 10 xs + 1) xs) → (t : Bool) → cond t ([] ∷ lines xs) (on_first x (lines xs)) ≡ take (cond (not t) (1 + length_up_to 10 xs) 0) (x ∷ xs) ∷ lines (drop (cond (not t) (1 + length_up_to 10 xs) 0 + 1) (x ∷ xs))
one_more x xs ih true = refl
one_more x xs ih false =
    let far : 1 + length_up_to 10 xs + 1 ≡ suc (length_up_to 10 xs + 1) = omega arith in
    let one : 1 + length_up_to 10 xs ≡ suc (length_up_to 10 xs) = omega arith in
    rw (far, one) ih

lines_step : (xs : List ℕ) → 0 < length xs → lines xs ≡ take (length_up_to 10 xs) xs ∷ lines (drop (length_up_to 10 xs + 1) xs)
lines_step [] h = absurd (omega arith)
lines_step (x ∷ []) h = one_more x [] refl (eqb x 10)
lines_step (x ∷ y ∷ ys) h = one_more x (y ∷ ys) (ap (on_first x) (lines_step (y ∷ ys) (omega arith))) (eqb x 10)

-- past the end nothing is left
drop_min : (a : ℕ) (s : List ℕ) → drop (min a (length s)) s ≡ drop a s
drop_min a s = ⊎_elim (λ l. ap (λ n. drop n s) (omega arith)) (λ l. drop_all (min a (length s)) s (omega arith) ∙ sym (drop_all a s l)) (order a (length s))

-- what is left after the line of n bytes at a
pub line_left : (s : List ℕ) (a n m : ℕ) → m ≡ min (a + n + 1) (length s) → drop m s ≡ drop (n + 1) (drop a s)
line_left s a n m e =
    let far : a + n + 1 ≡ a + (n + 1) = omega arith in
    rw (e, drop_min, far) (sym (drop-drop (n + 1) a s))

-- the line at a, and what is left after it
pub line_step : (s r : List ℕ) (a n m : ℕ) → a < length s → r ≡ slice_range s a (length s) → n ≡ length_up_to 10 r → m ≡ min (a + n + 1) (length s) → lines (drop a s) ≡ take n r ∷ lines (drop m s)
line_step s r a n m h is e e2 =
    let whole : r ≡ drop a s = is ∙ take_rest s a in
    let same : n ≡ length_up_to 10 (drop a s) = e ∙ ap (length_up_to 10) whole in
    rw (line_left s a n m e2, whole, same) (lines_step (drop a s) (rw (length-drop a s) (omega arith)))

-- the words of s from a on
abbrev rest_words : List ℕ → ℕ → List (List ℕ)
rest_words s a = cond (leb a (length s)) (words (drop a s)) []

-- the word at a, and those after it
word_step : (s r : List ℕ) (a n : ℕ) → a ≤ length s → r ≡ drop a s → n ≡ length_up_to 32 r → rest_words s a ≡ take n r ∷ rest_words s (a + (n + 1))
word_step s r a n h is e =
    let test : leb (n + 1) (length r) ≡ leb (a + (n + 1)) (length s) = rw (is, length-drop a s) (grind (arith, nat_tests)) in
    let back : drop (n + 1) r ≡ drop (a + (n + 1)) s = ap (drop (n + 1)) is ∙ drop-drop (n + 1) a s in
    rw (le-leb a (length s) h, ← is, ← test, ← back, e) (pieces_step 32 r)

-- the same with columns
pub word_given : (s r : List ℕ) (a n : ℕ) → a ≤ length s → r ≡ slice_range s a (length s) → n ≡ length_up_to 32 r → words_from a s ≡ (a + 1, take n r) ∷ words_from (a + (n + 1)) s
word_given s r a n h is e =
    let long : length (take n r) ≡ n = rw e (length-prefix_len _ r) in
    let far : a + 1 + (length (take n r) + 1) ≡ a + (n + 1) + 1 = omega arith in
    ap (placed (a + 1)) (word_step s r a n h (is ∙ take_rest s a) e) ∙ ap (λ k. (a + 1, take n r) ∷ placed k (rest_words s (a + (n + 1)))) far

-- a call that gives a line or a word comes nearer to the end
pub line_goes : (r : Reader) (line : Option Line) (r' : Reader) → GivesLine r line r' → MakesProgress (λ _. ⊤) (item_count lines_left) r line r'
line_goes r None r' g = record { on = λ _. tt; keeps = tt; rests = λ _. tt }
line_goes r (Some line) r' g = record { on = λ _. (tt, tt, omega (arith, ap length g.given)); keeps = tt; rests = λ _. tt }

pub word_goes : (l : Line) (word : Option Part) (l' : Line) → GivesWord l word l' → MakesProgress (λ _. ⊤) (item_count words_left) l word l'
word_goes l None l' g = record { on = λ _. tt; keeps = tt; rests = λ _. tt }
word_goes l (Some word) l' g = record { on = λ _. (tt, tt, omega (arith, ap length g.given)); keeps = tt; rests = λ _. tt }
