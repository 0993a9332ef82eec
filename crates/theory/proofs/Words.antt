-- Laws of the exclusive or, of the two parts of a word, and of the alias.
use Rattle.std.proofs.Common.{◌≡◌, ℕ, zero, suc, ◌+◌, ◌*◌, ◌/◌, ◌%◌, ◌^◌, ◌<◌, ◌≤◌, ◌⊎◌, List, [], ◌∷◌, length, get_or, sym, refl, ap, ◌∙◌, ap₂, inl, inr, le_refl, mod-lt, mod-eq_of_lt, zero-lt-suc, one-mul, pow-suc, zero-mul, mul-div_cancel, add-one, arith, pow_pos}
use native.Mathlib.Nat.{div-eq_of_lt, mul-mod_left, div_self, div-eq_of_lt-le}
use native.Mathlib.Decide.{dec_lt}
use lib.Arith.{digits_div, digits_mod}
use lib.Pow.{split, mod-mod-pow, field}
use lib.Bits.{bit_xor, xor_assoc, xor_comm, xor_self, xor_zero_r, xor_shr}
use Rattle.theory.specs.Words.{alias}

infixl 60 ◌⊕◌
abbrev pub ◌⊕◌ : ℕ → ℕ → ℕ
a ⊕ b = bit_xor a b

-- ---- the group
pub cancel : (a b : ℕ) → a ⊕ (a ⊕ b) ≡ b
cancel a b = sym (xor_assoc a a b) ∙ ap (λ (x : ℕ). x ⊕ b) (xor_self a)

pub cancel_r : (a b : ℕ) → (a ⊕ b) ⊕ b ≡ a
cancel_r a b = xor_assoc a b b ∙ ap (λ (x : ℕ). a ⊕ x) (xor_self b) ∙ xor_zero_r a

pub same : (a b : ℕ) → a ⊕ b ≡ 0 → a ≡ b
same a b e = sym (cancel_r a b) ∙ ap (λ (x : ℕ). x ⊕ b) e

pub xor_0 : (a b : ℕ) → a ≡ b → a ⊕ b ≡ 0
xor_0 a b e = ap (λ (x : ℕ). x ⊕ b) e ∙ xor_self b

-- (a + b) + (c + d) = (a + c) + (b + d)
pub swap4 : (a b c d : ℕ) → (a ⊕ b) ⊕ (c ⊕ d) ≡ (a ⊕ c) ⊕ (b ⊕ d)
swap4 a b c d =
    xor_assoc a b (c ⊕ d)
    ∙ ap (λ (x : ℕ). a ⊕ x) (sym (xor_assoc b c d) ∙ ap (λ (x : ℕ). x ⊕ d) (xor_comm b c) ∙ xor_assoc c b d)
    ∙ sym (xor_assoc a c (b ⊕ d))

-- (a + c) + (c + b) = a + b
pub meet : (a b c : ℕ) → (a ⊕ c) ⊕ (c ⊕ b) ≡ a ⊕ b
meet a b c = xor_assoc a c (c ⊕ b) ∙ ap (λ (x : ℕ). a ⊕ x) (cancel c b)

-- ---- the low and the high part
pub mod_0 : (w : ℕ) → 0 % 2 ^ w ≡ 0
mod_0 w = mod-eq_of_lt (pow_pos w)

pub div_0 : (w : ℕ) → 0 / 2 ^ w ≡ 0
div_0 w = div-eq_of_lt (pow_pos w)

pub up_mod : (w x : ℕ) → x * 2 ^ w % 2 ^ w ≡ 0
up_mod w x = mul-mod_left x (2 ^ w)

pub up_div : (w x : ℕ) → x * 2 ^ w / 2 ^ w ≡ x
up_div w x = mul-div_cancel x (pow_pos w)

pub parts : (w x y : ℕ) → x % 2 ^ w ≡ y % 2 ^ w → x / 2 ^ w ≡ y / 2 ^ w → x ≡ y
parts w x y lo hi = sym (split x w) ∙ ap₂ (λ (h l : ℕ). h * 2 ^ w + l) hi lo ∙ split y w

pub below : (w x : ℕ) → x / 2 ^ w ≡ 0 → x < 2 ^ w
below w x e = let h : 0 * 2 ^ w + x % 2 ^ w ≡ x = rw e at (split x w) in omega (arith, mod-lt x (pow_pos w))

-- a digit at place a comes off
pub top_off : (a x : ℕ) → x < 2 ^ suc a → (x < 2 ^ a) ⊎ (x ⊕ 2 ^ a < 2 ^ a)
top_off a x h = go (dec_lt x (2 ^ a))
  where
    one : 2 ^ a ≤ x → x / 2 ^ a ≡ 1
    one le = div-eq_of_lt-le {k = 1} (2 ^ a) (omega arith) (omega (arith, pow-suc 2 a))

    go : Dec (x < 2 ^ a) → (x < 2 ^ a) ⊎ (x ⊕ 2 ^ a < 2 ^ a)
    go (yes l) = inl l
    go (no n) = inr (below a (x ⊕ 2 ^ a) (xor_shr x (2 ^ a) a ∙ ap₂ bit_xor (one (omega arith)) (div_self (pow_pos a))))

-- ---- the alias
pub alias_0 : (cs : List ℕ) → alias cs 0 ≡ 0
alias_0 [] = refl
alias_0 (c ∷ cs) = let ih = alias_0 cs in simp (zero-mul, ih)

pub alias_even : (c : ℕ) (cs : List ℕ) (f : ℕ) → alias (c ∷ cs) (f * 2) ≡ alias cs f
alias_even c cs f = simp (mul-mod_left f 2, mul-div_cancel f (zero-lt-suc 1), zero-mul)

pub alias_odd : (c : ℕ) (cs : List ℕ) (f : ℕ) → alias (c ∷ cs) (f * 2 + 1) ≡ c ⊕ alias cs f
alias_odd c cs f = simp (digits_mod f (le_refl 2), digits_div f (le_refl 2), one-mul)

pub alias_1 : (c : ℕ) (cs : List ℕ) → alias (c ∷ cs) 1 ≡ c
alias_1 c cs = let z = alias_0 cs in simp (one-mul, z, xor_zero_r)

pub alias_mod : (cs : List ℕ) (e : ℕ) → alias cs (e % 2 ^ length cs) ≡ alias cs e
alias_mod [] e = refl
alias_mod (c ∷ cs) e =
    let n : ℕ = length cs in
    let lo : e % 2 ^ suc n % 2 ≡ e % 2 = rw add-one at (mod-mod-pow e n 1) in
    let hi : e % 2 ^ suc n / 2 ≡ e / 2 % 2 ^ n = rw add-one at (field e n 1) in
    ap₂ (λ (x y : ℕ). x * c ⊕ alias cs y) lo hi ∙ ap (λ (x : ℕ). e % 2 * c ⊕ x) (alias_mod cs (e / 2))

pub alias_at : (cs : List ℕ) (i : ℕ) → alias cs (2 ^ i) ≡ get_or cs i 0
alias_at [] i = refl
alias_at (c ∷ cs) zero = alias_1 c cs
alias_at (c ∷ cs) (suc i) = let ih = alias_at cs i in simp (pow-suc 2 i, mul-mod_left (2 ^ i) 2, mul-div_cancel (2 ^ i) (zero-lt-suc 1), zero-mul) ih
