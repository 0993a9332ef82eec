-- Letters of factors, and letter groups of effects. Assumes nothing.
--
-- A plan has n1 whole-plot factors, lettered from A on, and n2 subplot factors, lettered from p on. Factors count
-- from 0, whole-plot factors first. An effect is a number in which bit i stands for factor i.
use Rattle.std.specs.Prelude.{◌≡◌, ℕ, zero, suc, ◌+◌, ◌-◌, ◌/◌, ◌%◌, ◌^◌, ◌<◌, Bool, true, cond, ◌&&◌, List, [], ◌∷◌, ◌++◌, Some, None, codes, Option, option_and_then, ◌==◌, nat_le, nat_lt, refl}
use Rattle.sheet.specs.declared.letters.Alphabet.{Alphabet}

-- Whether all factors have letters: at most nine of a kind, and sixteen in all, as an effect has sixteen bits.
abbrev pub lettered : Alphabet → Bool
lettered a = nat_le a.n1 9 && (nat_le a.n2 9 && nat_le (a.n1 + a.n2) 16)

-- the factor that a letter stands for
abbrev pub factor : Alphabet → ℕ → Option ℕ
factor a c =
    cond (lettered a)
    (cond (nat_le 65 c && nat_lt c (65 + a.n1)) (Some (c - 65)) (cond (nat_le 112 c && nat_lt c (112 + a.n2)) (Some (a.n1 + (c - 112))) None))
    None

-- the effect e with the factors of the letters cs, each of them factor `next` or above and above those before it
abbrev pub join_on : (ℕ → Option ℕ) → ℕ → ℕ → List ℕ → Option ℕ
join_on f next e [] = Some e
join_on f next e (c ∷ cs) = option_and_then (λ i. cond (nat_le next i) (join_on f (i + 1) (e + 2 ^ i) cs) None) (f c)

-- the effect that a letter group writes: at least one letter, each of another factor, in factor order
abbrev pub effect_of : Alphabet → List ℕ → Option ℕ
effect_of a [] = None
effect_of a (c ∷ cs) = join_on (factor a) 0 0 (c ∷ cs)

-- the letter of factor i, a question mark past the sixteenth
abbrev pub letter_of : ℕ → ℕ → ℕ
letter_of n1 i = cond (nat_le 16 i) 63 (cond (nat_lt i n1) (65 + i) (112 + (i - n1)))

-- the letters of those of the m factors from i on that e has; bit 0 of e stands for factor i
unfoldable pub letters_from : ℕ → ℕ → ℕ → ℕ → List ℕ
letters_from n1 i zero e = []
letters_from n1 i (suc m) e = cond (e % 2 == 1) (letter_of n1 i ∷ []) [] ++ letters_from n1 (i + 1) m (e / 2)

-- the letters of an effect's factors in factor order, `0` for the mean
abbrev pub letters_of : ℕ → ℕ → List ℕ
letters_of n1 e = cond (e == 0) (codes "0") (letters_from n1 0 16 e)

-- what is printed of an effect other than the mean is read back as that effect
abbrev pub LettersStand : Type 0
LettersStand = (a : Alphabet) (e : ℕ) → lettered a ≡ true → 0 < e → e < 2 ^ (a.n1 + a.n2) → effect_of a (letters_of a.n1 e) ≡ Some e

-- of one whole-plot and three subplot factors, Ar is 1 + 8
example_effect : effect_of (record { n1 = 1; n2 = 3 }) (codes "Ar") ≡ Some 9
example_effect = refl

example_letters : letters_of 1 9 ≡ codes "Ar"
unfolding letters_from
example_letters = refl

example_order : effect_of (record { n1 = 1; n2 = 3 }) (codes "rA") ≡ None
example_order = refl

example_other : effect_of (record { n1 = 1; n2 = 3 }) (codes "AB") ≡ None
example_other = refl
