-- The letters of an effect, one factor after another. Assumes nothing.
use Rattle.std.proofs.Common.{◌≡◌, ℕ, zero, suc, ◌+◌, ◌-◌, ◌/◌, ◌%◌, ◌<◌, ◌≤◌, Bool, true, false, cond, eqb, List, [], ◌∷◌, ◌++◌, length, take, set, codes, sym, refl, ap, ◌∙◌, append_assoc, append-nil, arith, length-append, length-set, eq-eqb, ne_eqb}
use Rattle.std.proofs.lemmas.List.{take_more_set}
use Rattle.sheet.specs.Letters.{letter_of, letters_from, letters_of}

-- the letters from factor i on are its own, where e has it, and those from the next factor on
pub from_next : (n1 i m e : ℕ) → letters_from n1 i (suc m) e ≡ cond (eqb (e % 2) 1) (letter_of n1 i ∷ []) [] ++ letters_from n1 (i + 1) m (e / 2)
unfolding letters_from
from_next n1 i m e = refl

pub from_none : (n1 i e : ℕ) → letters_from n1 i 0 e ≡ []
unfolding letters_from
from_none n1 i e = refl

module _ (n1 i e : ℕ) (h : i < 16) where
  abbrev rest : List ℕ
  rest = letters_from n1 (i + 1) (16 - (i + 1)) (e / 2)

  one : letters_from n1 i (16 - i) e ≡ cond (eqb (e % 2) 1) (letter_of n1 i ∷ []) [] ++ rest
  one =
      let more : 16 - i ≡ suc (16 - (i + 1)) = omega arith in
      ap (λ m. letters_from n1 i m e) more ∙ from_next n1 i (16 - (i + 1)) e

  pub letters_yes : e % 2 ≡ 1 → letters_from n1 i (16 - i) e ≡ letter_of n1 i ∷ rest
  letters_yes odd = one ∙ ap (λ t. cond t (letter_of n1 i ∷ []) [] ++ rest) (eq-eqb _ _ odd)

  pub letters_no : (e % 2 ≡ 1 → ⊥) → letters_from n1 i (16 - i) e ≡ rest
  letters_no even = one ∙ ap (λ t. cond t (letter_of n1 i ∷ []) [] ++ rest) (ne_eqb _ _ even)

  -- one turn of the loop, with a letter and with none: k letters stand in g, and the rest of all is still to come
  pub turn_yes : (g g' all : List ℕ) (k k' x : ℕ) → length g ≡ 16 → k ≤ i → e % 2 ≡ 1 → g' ≡ set g k x → k' ≡ k + 1 → x ≡ letter_of n1 i → take k g ++ letters_from n1 i (16 - i) e ≡ all → (take k' g' ++ rest ≡ all) × (k' ≤ i + 1) × (length g' ≡ 16)
  turn_yes g g' all k k' x wide up odd is on letter so =
      let here : k < length g = omega arith in
      let grown : take k' g' ≡ take k g ++ (letter_of n1 i ∷ []) = (λ j. take (on j) (is j)) ∙ take_more_set g k x here ∙ ap (λ y. take k g ++ (y ∷ [])) letter in (
        ap (λ l. l ++ rest) grown ∙ append_assoc (take k g) (letter_of n1 i ∷ []) rest ∙ ap (λ l. take k g ++ l) (sym (letters_yes odd)) ∙ so,
        omega arith,
        ap length is ∙ length-set g k x ∙ wide,
      )

  pub turn_no : (g g' all : List ℕ) (k k' : ℕ) → length g ≡ 16 → k ≤ i → (e % 2 ≡ 1 → ⊥) → g' ≡ g → k' ≡ k → take k g ++ letters_from n1 i (16 - i) e ≡ all → (take k' g' ++ rest ≡ all) × (k' ≤ i + 1) × (length g' ≡ 16)
  turn_no g g' all k k' wide up even is on so =
      ((λ j. take (on j) (is j) ++ rest) ∙ ap (λ l. take k g ++ l) (sym (letters_no even)) ∙ so, omega arith, ap length is ∙ wide)

-- after the last factor the whole group stands
pub spelled : (n1 all i e : ℕ) (g : List ℕ) (k : ℕ) → (all ≡ 0 → ⊥) → 16 ≤ i → take k g ++ letters_from n1 i (16 - i) e ≡ letters_from n1 0 16 all → take (k - 0) g ≡ letters_of n1 all
spelled n1 all i e g k some h so =
    let last : 16 - i ≡ 0 = omega arith in
    let front : k - 0 ≡ k = omega arith in
    let none : letters_from n1 i (16 - i) e ≡ [] = ap (λ m. letters_from n1 i m e) last ∙ from_none n1 i e in
    ap (λ m. take m g) front ∙ sym (append-nil (take k g)) ∙ sym (ap (λ l. take k g ++ l) none) ∙ so ∙ sym (rw (ne_eqb all 0 some))

-- a letter for each factor at most
letters_from_lem : (n1 i m e : ℕ) → length (letters_from n1 i m e) ≤ m
unfolding letters_from
letters_from_lem n1 i zero e = omega arith
letters_from_lem n1 i (suc m) e =
    omega (arith, length-append (cond (eqb (e % 2) 1) (letter_of n1 i ∷ []) []) (letters_from n1 (i + 1) m (e / 2)), letters_from_lem n1 (i + 1) m (e / 2), one (eqb (e % 2) 1))
  where
    one : (b : Bool) → length (cond b (letter_of n1 i ∷ []) []) ≤ 1
    one true = omega arith
    one false = omega arith

pub sixteen_letters : (n1 e : ℕ) → length (letters_of n1 e) ≤ 16
sixteen_letters n1 e = at (eqb e 0)
  where
    at : (b : Bool) → length (cond b (codes "0") (letters_from n1 0 16 e)) ≤ 16
    at true = omega arith
    at false = letters_from_lem n1 0 16 e
