-- Cutting loses nothing. Assumes nothing.
use Rattle.std.proofs.Common.{◌≡◌, ℕ, suc, ◌-◌, ◌<◌, Bool, true, false, cond, ◌||◌, eqb, List, [], ◌∷◌, length, get_or, sym, refl, ap, ◌∙◌, arith, eqb-true}
use borrow.Author.Tests.{clash, eqb-false}
use Rattle.std.proofs.lemmas.Bool.Decides.{nat_tests}
use Rattle.std.specs.List.{AllByRecursion}
use Rattle.sheet.specs.Cuts.{words, lines, on_first, spaced, feeding, fed, Without, WordsStand, LinesStand}

-- what cutting into words keeps of xs
abbrev Cut : List ℕ → List (List ℕ) → Type 0
Cut xs ps = (spaced ps ≡ xs) × (0 < length ps) × AllByRecursion (Without 32) ps

at_space : (x : ℕ) (xs : List ℕ) (ps : List (List ℕ)) → x ≡ 32 → Cut xs ps → Cut (x ∷ xs) ([] ∷ ps)
at_space x xs [] e c = absurd (omega (arith, c.1))
at_space x xs (p ∷ ps) e c = ((λ i. sym e i ∷ c.0 i), omega arith, (tt, c.2))

past_space : (x : ℕ) (xs : List ℕ) (ps : List (List ℕ)) → (x ≡ 32 → ⊥) → Cut xs ps → Cut (x ∷ xs) (on_first x ps)
past_space x xs [] e c = absurd (omega (arith, c.1))
past_space x xs (p ∷ []) e c = (ap (λ l. x ∷ l) c.0, omega arith, ((e, c.2.0), c.2.1))
past_space x xs (p ∷ q ∷ ps) e c = (ap (λ l. x ∷ l) c.0, omega arith, ((e, c.2.0), c.2.1))

one_byte : (x : ℕ) (xs : List ℕ) (ps : List (List ℕ)) (t : Bool) → eqb x 32 ≡ t → Cut xs ps → Cut (x ∷ xs) (cond t ([] ∷ ps) (on_first x ps))
one_byte x xs ps true e c = at_space x xs ps (eqb-true x 32 e) c
one_byte x xs ps false e c = past_space x xs ps (eqb-false x 32 e) c

pub words_stand_lem : WordsStand
words_stand_lem [] = (refl, omega arith, (tt, tt))
words_stand_lem (x ∷ xs) = one_byte x xs (words xs) (eqb x 32) refl (words_stand_lem xs)

-- what cutting into lines keeps of xs
abbrev Fed : List ℕ → List (List ℕ) → Type 0
Fed xs ls = (feeding ls ≡ xs) × AllByRecursion (Without 10) ls

-- the last byte of two or more is that of all but the first
fed_rest : (x y : ℕ) (ys : List ℕ) → fed (x ∷ y ∷ ys) ≡ fed (y ∷ ys)
fed_rest x y ys =
    let far : suc (suc (length ys)) - 1 ≡ suc (length ys) = omega arith in
    let near : suc (length ys) - 1 ≡ length ys = omega arith in
    let some : eqb (suc (suc (length ys))) 0 ≡ eqb (suc (length ys)) 0 = grind (arith, nat_tests) in
    let last : eqb (get_or (x ∷ y ∷ ys) (suc (suc (length ys)) - 1) 0) 10 ≡ eqb (get_or (y ∷ ys) (suc (length ys) - 1) 0) 10 = ap (λ k. eqb (get_or (x ∷ y ∷ ys) k 0) 10) far ∙ sym (ap (λ k. eqb (get_or (y ∷ ys) k 0) 10) near) in
    λ i. some i || last i

past_feed : (x y : ℕ) (ys : List ℕ) (ls : List (List ℕ)) → (x ≡ 10 → ⊥) → Fed (y ∷ ys) ls → Fed (x ∷ y ∷ ys) (on_first x ls)
past_feed x y ys [] e c = absurd (omega (arith, ap length c.0))
past_feed x y ys (l ∷ ls) e c = (ap (λ r. x ∷ r) c.0, ((e, c.1.0), c.1.1))

one_more : (x y : ℕ) (ys : List ℕ) (ls : List (List ℕ)) (t : Bool) → eqb x 10 ≡ t → Fed (y ∷ ys) ls → Fed (x ∷ y ∷ ys) (cond t ([] ∷ ls) (on_first x ls))
one_more x y ys ls true e c = ((λ i. sym (eqb-true x 10 e) i ∷ c.0 i), (tt, c.1))
one_more x y ys ls false e c = past_feed x y ys ls (eqb-false x 10 e) c

only_feed : (x : ℕ) (t : Bool) → eqb x 10 ≡ t → t ≡ true → Fed (x ∷ []) (cond t ([] ∷ []) (on_first x []))
only_feed x true e h = (ap (λ n. n ∷ []) (sym (eqb-true x 10 e)), (tt, tt))
only_feed x false e h = absurd (clash h)

pub lines_stand_lem : LinesStand
lines_stand_lem [] h = (refl, tt)
lines_stand_lem (x ∷ []) h = only_feed x (eqb x 10) refl h
lines_stand_lem (x ∷ y ∷ ys) h = one_more x y ys (lines (y ∷ ys)) (eqb x 10) refl (lines_stand_lem (y ∷ ys) (sym (fed_rest x y ys) ∙ h))
