-- The alias of a product of effects is the product of their aliases, and one factor more.
use Rattle.std.proofs.Common.{◌≡◌, ℕ, suc, ◌+◌, ◌*◌, ◌/◌, ◌%◌, ◌^◌, ◌<◌, List, [], ◌∷◌, ◌++◌, length, sym, refl, ap, ◌∙◌, ap₂, mod-lt, mod-eq_of_lt, zero-lt-suc, div-one, one-add, shr-shr}
use lib.Bits.{bit_xor, xor_assoc, xor_zero_r, xor_mod, xor_shr, block_half, block_odd}
use lib.Pow.{high}
use Rattle.theory.specs.Words.{alias}
use Rattle.theory.proofs.Words.{◌⊕◌, swap4}
use Rattle.theory.proofs.Grow.{times_xor}

pub alias_xor : (cs : List ℕ) (e f : ℕ) → alias cs (e ⊕ f) ≡ alias cs e ⊕ alias cs f
alias_xor [] e f = refl
alias_xor (c ∷ cs) e f =
    ap₂ (λ (d r : ℕ). d * c ⊕ alias cs r) (xor_mod e f 1) (xor_shr e f 1)
    ∙ ap₂ bit_xor (times_xor (e % 2) (f % 2) c (mod-lt e (zero-lt-suc 1)) (mod-lt f (zero-lt-suc 1))) (alias_xor cs (e / 2) (f / 2))
    ∙ swap4 (e % 2 * c) (f % 2 * c) (alias cs (e / 2)) (alias cs (f / 2))

-- later columns see the later factors
pub alias_append : (cs ds : List ℕ) (e : ℕ) → alias (cs ++ ds) e ≡ alias cs e ⊕ alias ds (e / 2 ^ length cs)
alias_append [] ds e = ap (alias ds) (sym (div-one e))
alias_append (c ∷ cs) ds e =
    ap (bit_xor (e % 2 * c)) (alias_append cs ds (e / 2) ∙ ap (λ (x : ℕ). alias cs (e / 2) ⊕ alias ds x) (shr-shr e 1 (length cs) ∙ ap (λ (n : ℕ). e / 2 ^ n) (one-add (length cs))))
    ∙ sym (xor_assoc (e % 2 * c) (alias cs (e / 2)) (alias ds (e / 2 ^ suc (length cs))))

-- factors beyond the columns count for nothing
pub alias_block : (cs : List ℕ) (t e : ℕ) → alias cs (t * 2 ^ length cs + e) ≡ alias cs e
alias_block [] t e = refl
alias_block (c ∷ cs) t e =
    ap₂ (λ (d r : ℕ). d * c ⊕ alias cs r) (block_odd t (length cs) e) (block_half t (length cs) e)
    ∙ ap (bit_xor (e % 2 * c)) (alias_block cs t (e / 2))

-- one column more, whose factor is in the effect as often as d says
pub alias_push : (cs : List ℕ) (c d e : ℕ) → d < 2 → e < 2 ^ length cs → alias (cs ++ c ∷ []) (d * 2 ^ length cs + e) ≡ alias cs e ⊕ d * c
alias_push cs c d e l h =
    alias_append cs (c ∷ []) (d * 2 ^ length cs + e)
    ∙ ap₂ (λ (a x : ℕ). a ⊕ (x % 2 * c ⊕ 0)) (alias_block cs d e) (high d (length cs) h)
    ∙ ap (bit_xor (alias cs e)) (xor_zero_r (d % 2 * c) ∙ ap (λ (x : ℕ). x * c) (mod-eq_of_lt l))
