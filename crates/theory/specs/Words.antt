-- Unit words, their strata and signs, and the alias of an effect. Assumes nothing.
--
-- Unit factors come in layers, whole plots first. A list of numbers ws has how many unit factors each layer has:
-- w whole-plot and s subplot unit factors are `w ∷ s ∷ []`. A unit word is a number whose bits are unit factors, those
-- of the first layer lowest. The product of two words is their exclusive or.
use Rattle.std.specs.Prelude.{◌≡◌, ℕ, suc, ◌+◌, ◌*◌, ◌/◌, ◌%◌, ◌^◌, Bool, cond, List, [], ◌∷◌, ◌==◌, bit_and, bit_xor, refl}
use Rattle.std.specs.Int.Count.{ones}
use Rattle.theory.specs.declared.sign.Sign.{Sign}
use Rattle.theory.specs.declared.sign.Sign.TheVariants.{Plus, Minus}

-- how many unit factors there are; the unit words are the numbers below 2 ^ total ws
abbrev pub total : List ℕ → ℕ
total [] = 0
total (w ∷ ws) = total ws + w

-- The alias of the effect e under the columns cs: the product of the columns of its factors. Bit i of e stands for
-- factor i, whose column is the i-th of the list, counted from 0.
abbrev pub alias : List ℕ → ℕ → ℕ
alias [] e = 0
alias (c ∷ cs) e = bit_xor (e % 2 * c) (alias cs (e / 2))

-- the topmost layer, counted from 1, of which the word v has a unit factor; 0 where it has none
abbrev pub stratum : List ℕ → ℕ → ℕ
stratum [] v = 0
stratum (w ∷ ws) v = cond (v == 0) 0 (suc (stratum ws (v / 2 ^ w)))

-- Whether the word v and the run u share an even number of one bits. Runs are numbered as unit words are.
abbrev pub evenly : ℕ → ℕ → Bool
evenly v u = ones (bit_and v u) % 2 == 0

-- the sign in run u of every effect whose alias is v
abbrev pub sign : ℕ → ℕ → Sign
sign v u = cond (evenly v u) Plus Minus

-- Two whole-plot and one subplot unit factors, the columns of A, p, q and r: the effect pr, number 10, has alias 2 and
-- is whole-plot; Ar, number 9, has alias 7 and is subplot.
example_alias : alias (1 ∷ 4 ∷ 5 ∷ 6 ∷ []) 10 ≡ 2
example_alias = refl

example_whole : stratum (2 ∷ 1 ∷ []) (alias (1 ∷ 4 ∷ 5 ∷ 6 ∷ []) 10) ≡ 1
example_whole = refl

example_sub : stratum (2 ∷ 1 ∷ []) (alias (1 ∷ 4 ∷ 5 ∷ 6 ∷ []) 9) ≡ 2
example_sub = refl

-- in run 3 the word 7 shares two bits, in run 1 one
example_plus : sign 7 3 ≡ Plus
unfolding ones
example_plus = refl

example_minus : sign 7 1 ≡ Minus
unfolding ones
example_minus = refl
