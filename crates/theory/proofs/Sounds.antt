-- What soundness gives: every column is a unit word, and each unit word comes with an effect.
use Rattle.std.proofs.Common.{◌≡◌, ℕ, suc, ◌*◌, ◌/◌, ◌%◌, ◌^◌, ◌<◌, ◌≢◌, ◌⊎◌, List, [], ◌∷◌, ◌++◌, length, get_or, sym, subst, inl, inr, mod-lt, zero-lt-suc, arith, pow_pos}
use mathlib.Core.Logic.{∥∥₁_elim}
use native.Mathlib.Decide.{dec_lt}
use lib.ListN.{get_or-eq_default}
use lib.Bits.{xor_lt}
use Rattle.std.proofs.lemmas.List.{length_push, get_or_append_left, get_or_push}
use Rattle.theory.specs.Words.{total, alias}
use Rattle.theory.specs.Keys.{Words, Full}
use Rattle.theory.proofs.Pigeon.{seek}
use Rattle.theory.proofs.Grow.{times_lt}

-- past the end a list has 0
pub words_all : (ws cs : List ℕ) → Words ws cs → (i : ℕ) → get_or cs i 0 < 2 ^ total ws
words_all ws cs h i = go (dec_lt i (length cs))
  where
    go : Dec (i < length cs) → get_or cs i 0 < 2 ^ total ws
    go (yes l) = h i l
    go (no n) = subst (λ (z : ℕ). z < 2 ^ total ws) (sym (get_or-eq_default cs 0 (omega arith))) (pow_pos (total ws))

pub alias_lt : (k : ℕ) (cs : List ℕ) → ((i : ℕ) → get_or cs i 0 < 2 ^ k) → (e : ℕ) → alias cs e < 2 ^ k
alias_lt k [] h e = pow_pos k
alias_lt k (c ∷ cs) h e =
    xor_lt k (e % 2 * c) (alias cs (e / 2)) (times_lt k (e % 2) c (mod-lt e (zero-lt-suc 1)) (h 0)) (alias_lt k cs (λ i. h (suc i)) (e / 2))

pub alias_word : (ws cs : List ℕ) → Words ws cs → (e : ℕ) → alias cs e < 2 ^ total ws
alias_word ws cs h = alias_lt (total ws) cs (words_all ws cs h)

-- where some effect has the alias v, the first one can be found
pub an_effect : (ws cs : List ℕ) → Full ws cs → (v : ℕ) → v < 2 ^ total ws → (e : ℕ) × (e < 2 ^ length cs) × (alias cs e ≡ v)
an_effect ws cs full v h = go (seek (alias cs) v (2 ^ length cs))
  where
    go : ((e : ℕ) × (e < 2 ^ length cs) × (alias cs e ≡ v)) ⊎ ((e : ℕ) → e < 2 ^ length cs → alias cs e ≢ v) → (e : ℕ) × (e < 2 ^ length cs) × (alias cs e ≡ v)
    go (inl found) = found
    go (inr none) = absurd (∥∥₁_elim (full v h) (λ x y. absurd x) (λ k. none k.0 k.1 k.2))

-- one unit word more
pub words_push : (ws cs : List ℕ) (c : ℕ) → Words ws cs → c < 2 ^ total ws → Words ws (cs ++ c ∷ [])
words_push ws cs c words h i l = go (dec_lt i (length cs))
  where
    go : Dec (i < length cs) → get_or (cs ++ c ∷ []) i 0 < 2 ^ total ws
    go (yes k) = subst (λ (x : ℕ). x < 2 ^ total ws) (sym (get_or_append_left cs (c ∷ []) 0 i k)) (words i k)
    go (no n) = subst (λ (x : ℕ). x < 2 ^ total ws) (sym (get_or_push cs c 0 i (omega (arith, length_push cs c)))) h
