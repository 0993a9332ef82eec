-- What is printed of an effect is read back as that effect. Assumes nothing.
use Rattle.std.proofs.Common.{◌≡◌, ℕ, zero, suc, ◌+◌, ◌-◌, ◌*◌, ◌/◌, ◌%◌, ◌^◌, ◌<◌, ◌≤◌, Bool, true, false, cond, eqb, List, [], ◌∷◌, ◌++◌, Some, Option, sym, refl, ap, ◌∙◌, subst, ⊎_elim, mul_assoc, mul_comm, add-mul, one-mul, pow-suc, zero-mul, add-one, arith, ne_eqb, eqb-true, le-leb}
use borrow.Author.Tests.{eqb-false}
use Rattle.std.proofs.lemmas.Bool.Decides.{nat_tests}
use Rattle.std.proofs.str.Laws.{order}
use Rattle.sheet.specs.declared.letters.Alphabet.{Alphabet}
use Rattle.sheet.specs.Letters.{lettered, factor, join_on, effect_of, letter_of, letters_from, letters_of, LettersStand}
use Rattle.sheet.proofs.Spell.{from_next, from_none}

-- a factor's letter stands for it
pub factor_letter : (a : Alphabet) (i : ℕ) → lettered a ≡ true → i < a.n1 + a.n2 → factor a (letter_of a.n1 i) ≡ Some i
factor_letter a i ok h = grind (arith, nat_tests)

-- at most sixteen factors have letters
few : (a : Alphabet) → lettered a ≡ true → a.n1 + a.n2 ≤ 16
few a ok = grind (arith, nat_tests)

-- half of what fits n factors from i on fits those from the next one on
halves : (n i r : ℕ) → r < 2 ^ (n - i) → r / 2 < 2 ^ (n - (i + 1))
halves n i r small = ⊎_elim inside outside (order i n)
  where
    inside : i < n → r / 2 < 2 ^ (n - (i + 1))
    inside h =
        let one : n - i ≡ suc (n - (i + 1)) = omega arith in
        let twice : 2 ^ (n - i) ≡ 2 ^ (n - (i + 1)) * 2 = ap (λ k. 2 ^ k) one ∙ pow-suc 2 (n - (i + 1)) in
        omega arith

    outside : n ≤ i → r / 2 < 2 ^ (n - (i + 1))
    outside h =
        let none : n - i ≡ n - (i + 1) = omega arith in
        let same : 2 ^ (n - i) ≡ 2 ^ (n - (i + 1)) = ap (λ k. 2 ^ k) none in
        omega arith

-- past the last factor nothing is left
gone : (n i r : ℕ) → n ≤ i → r < 2 ^ (n - i) → r ≡ 0
gone n i r h small =
    let none : n - i ≡ 0 = omega arith in
    let one : 2 ^ (n - i) ≡ 1 = ap (λ k. 2 ^ k) none in
    omega arith

-- the bits from the next one on, and bit i where it is set
bits_odd : (r i e : ℕ) → r % 2 ≡ 1 → e + 2 ^ i + r / 2 * 2 ^ (i + 1) ≡ e + r * 2 ^ i
bits_odd r i e odd =
    let p = 2 ^ i in
    let q = r / 2 in
    let next : 2 ^ (i + 1) ≡ p * 2 = ap (λ k. 2 ^ k) (add-one i) ∙ pow-suc 2 i in
    let whole : r ≡ q * 2 + 1 = omega arith in
    let far : q * 2 ^ (i + 1) ≡ q * 2 * p = ap (λ k. q * k) (next ∙ mul_comm p 2) ∙ sym (mul_assoc q 2 p) in
    let all : r * p ≡ q * 2 * p + 1 * p = ap (λ k. k * p) whole ∙ add-mul (q * 2) 1 p in
    omega (arith, one-mul p)

bits_even : (r i e : ℕ) → (r % 2 ≡ 1 → ⊥) → e + r / 2 * 2 ^ (i + 1) ≡ e + r * 2 ^ i
bits_even r i e even =
    let p = 2 ^ i in
    let q = r / 2 in
    let next : 2 ^ (i + 1) ≡ p * 2 = ap (λ k. 2 ^ k) (add-one i) ∙ pow-suc 2 i in
    let whole : r ≡ q * 2 = omega arith in
    let far : q * 2 ^ (i + 1) ≡ q * 2 * p = ap (λ k. q * k) (next ∙ mul_comm p 2) ∙ sym (mul_assoc q 2 p) in
    let all : r * p ≡ q * 2 * p = ap (λ k. k * p) whole in
    omega arith

module _ (a : Alphabet) (ok : lettered a ≡ true) where
  abbrev f : ℕ → Option ℕ
  f = factor a

  -- what the letters from factor i + 1 on are read as
  abbrev Later : ℕ → ℕ → List ℕ → Type 0
  Later i r cs = (next e : ℕ) → next ≤ i + 1 → join_on f next e cs ≡ Some (e + r / 2 * 2 ^ (i + 1))

  one_bit : (i next e r : ℕ) (cs : List ℕ) → next ≤ i → r < 2 ^ (a.n1 + a.n2 - i) → Later i r cs → (t : Bool) → eqb (r % 2) 1 ≡ t → join_on f next e (cond t (letter_of a.n1 i ∷ []) [] ++ cs) ≡ Some (e + r * 2 ^ i)
  one_bit i next e r cs up small later true is =
      let odd = eqb-true (r % 2) 1 is in
      let here : i < a.n1 + a.n2 = ⊎_elim (λ l. l) (λ l. absurd (omega (arith, gone (a.n1 + a.n2) i r l small))) (order i (a.n1 + a.n2)) in
      let read : join_on f next e (letter_of a.n1 i ∷ cs) ≡ join_on f (i + 1) (e + 2 ^ i) cs = rw (factor_letter a i ok here, le-leb next i up) in
      read ∙ later (i + 1) (e + 2 ^ i) (omega arith) ∙ ap Some (bits_odd r i e odd)
  one_bit i next e r cs up small later false is = later next e (omega arith) ∙ ap Some (bits_even r i e (eqb-false (r % 2) 1 is))

  joins : (m i next e r : ℕ) → a.n1 + a.n2 ≤ i + m → next ≤ i → r < 2 ^ (a.n1 + a.n2 - i) → join_on f next e (letters_from a.n1 i m r) ≡ Some (e + r * 2 ^ i)
  joins zero i next e r long up small =
      let none : r ≡ 0 = gone (a.n1 + a.n2) i r (omega arith) small in
      let same : e ≡ e + r * 2 ^ i = omega (arith, ap (λ k. k * 2 ^ i) none, zero-mul (2 ^ i)) in
      ap (join_on f next e) (from_none a.n1 i r) ∙ ap Some same
  joins (suc m) i next e r long up small =
      ap (join_on f next e) (from_next a.n1 i m r)
      ∙ one_bit i next e r (letters_from a.n1 (i + 1) m (r / 2)) up small (λ next e up. joins m (i + 1) next e (r / 2) (omega arith) up (halves (a.n1 + a.n2) i r small)) (eqb (r % 2) 1) refl

  -- letters that say something are a group
  grouped : (bs : List ℕ) (e : ℕ) → 0 < e → join_on f 0 0 bs ≡ Some e → effect_of a bs ≡ Some e
  grouped [] e some is = let none : 0 ≡ e = cc in absurd (omega arith)
  grouped (c ∷ cs) e some is = is

pub letters_stand_lem : LettersStand
letters_stand_lem a e ok some small =
    let bits : join_on (factor a) 0 0 (letters_from a.n1 0 16 e) ≡ Some (0 + e * 2 ^ 0) = joins a ok 16 0 0 0 e (few a ok) (omega arith) (subst (λ k. e < 2 ^ k) (omega arith) small) in
    let whole : letters_of a.n1 e ≡ letters_from a.n1 0 16 e = rw (ne_eqb e 0 (λ z. omega arith)) in
    ap (effect_of a) whole ∙ grouped a ok (letters_from a.n1 0 16 e) e some (bits ∙ ap Some (omega arith))
