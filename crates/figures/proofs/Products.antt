-- The alias, one column after another.
use Rattle.std.proofs.Common.{◌≡◌, ℕ, ◌+◌, ◌*◌, ◌/◌, ◌%◌, ◌<◌, ◌≤◌, List, length, get_or, drop, sym, ap, ◌∙◌, one-mul, zero-mul, arith}
use lib.Bits.{bit_xor, xor_assoc, xor_zero_r}
use Rattle.std.proofs.lemmas.List.{at_drop_more, at_drop_all}
use Rattle.theory.specs.Words.{alias}

module _ (cs : List ℕ) (i word rest : ℕ) where
  step : i < length cs → bit_xor (bit_xor word (rest % 2 * get_or cs i 0)) (alias (drop (i + 1) cs) (rest / 2)) ≡ bit_xor word (alias (drop i cs) rest)
  step h =
      xor_assoc word (rest % 2 * get_or cs i 0) (alias (drop (i + 1) cs) (rest / 2))
      ∙ ap (bit_xor word) (sym (at_drop_more (λ x. alias x rest) cs i 0 h))

  -- the effect has factor i
  pub step_in : i < length cs → rest % 2 ≡ 1 → bit_xor (bit_xor word (get_or cs i 0)) (alias (drop (i + 1) cs) (rest / 2)) ≡ bit_xor word (alias (drop i cs) rest)
  step_in h e =
      ap (λ x. bit_xor (bit_xor word x) (alias (drop (i + 1) cs) (rest / 2))) (sym (ap (λ d. d * get_or cs i 0) e ∙ one-mul (get_or cs i 0))) ∙ step h

  -- the effect has not factor i
  pub step_out : i < length cs → (rest % 2 ≡ 1 → ⊥) → bit_xor word (alias (drop (i + 1) cs) (rest / 2)) ≡ bit_xor word (alias (drop i cs) rest)
  step_out h n =
      let e : rest % 2 ≡ 0 = omega arith in
      ap (λ x. bit_xor x (alias (drop (i + 1) cs) (rest / 2))) (sym (ap (bit_xor word) (ap (λ d. d * get_or cs i 0) e ∙ zero-mul (get_or cs i 0)) ∙ xor_zero_r word)) ∙ step h

  -- every factor is seen
  pub step_all : length cs ≤ i → bit_xor word (alias (drop i cs) rest) ≡ word
  step_all h = ap (bit_xor word) (at_drop_all (λ x. alias x rest) cs i h) ∙ xor_zero_r word
