-- The sign laws of a sound key.
use Rattle.std.proofs.Common.{◌≡◌, ℕ, ◌+◌, ◌*◌, ◌^◌, ◌<◌, ◌≤◌, Bool, true, false, cond, not, List, ◌++◌, length, sym, refl, ap, ◌∙◌, subst, arith, pow_pos}
use mathlib.Core.Bool.{beq}
use native.Mathlib.Decide.{dec_lt}
use Rattle.theory.specs.declared.sign.Sign.{Sign}
use Rattle.theory.specs.declared.sign.Sign.TheVariants.{Plus, Minus}
use Rattle.theory.specs.Words.{total, alias, stratum, evenly, sign}
use Rattle.theory.specs.Keys.{Words}
use Rattle.theory.specs.Tallies.{count}
use Rattle.theory.specs.Signs.{sign_in, same_sign, Halves, run_number, OneOrHalf}
use Rattle.theory.specs.Laws.{SignFact}
use Rattle.theory.proofs.Counts.{count_same, count_both, count_one}
use Rattle.theory.proofs.Members.{together, together_same}
use Rattle.theory.proofs.Signs.{half_alike, alike_all, plot_one, plot_half}
use Rattle.theory.proofs.Sounds.{alias_word}
use Rattle.theory.proofs.Strata.{total_append, stratum_low, stratum_le}

-- ---- signs as tests

same_tests : (a b : Bool) → same_sign (cond a Plus Minus) (cond b Plus Minus) ≡ beq a b
same_tests true true = refl
same_tests true false = refl
same_tests false true = refl
same_tests false false = refl

plus_test : (b : Bool) → same_sign Plus (cond b Plus Minus) ≡ b
plus_test true = refl
plus_test false = refl

minus_test : (b : Bool) → same_sign Minus (cond b Plus Minus) ≡ not b
minus_test true = refl
minus_test false = refl

same_self : (g : Sign) → same_sign g g ≡ true
same_self Plus = refl
same_self Minus = refl

-- equal signs come of equal tests
tests_of : (a b : Bool) → ◌≡◌ {A = Sign} (cond a Plus Minus) (cond b Plus Minus) → a ≡ b
tests_of a b e = sym (plus_test a) ∙ ap (same_sign Plus) e ∙ plus_test b

module _ (ws cs : List ℕ) (words : Words ws cs) where
  word : (e : ℕ) → alias cs e < 2 ^ total ws
  word = alias_word ws cs words

  pub halves : Halves ws cs
  halves e f he hf =
      record {
        alike = λ both u _. ap (λ (a : ℕ). sign a u) (together_same cs e f both);
        only = λ all. together cs e f he hf (alike_all (total ws) (alias cs e) (alias cs f) (word e) (word f) (λ u l. tests_of (evenly (alias cs e) u) (evenly (alias cs f) u) (all u l)));
        half = λ apart.
            ap (λ (n : ℕ). 2 * n) (count_same (λ u. same_sign (sign_in cs e u) (sign_in cs f u)) (λ u. beq (evenly (alias cs e) u) (evenly (alias cs f) u)) (2 ^ total ws) (λ u _. same_tests (evenly (alias cs e) u) (evenly (alias cs f) u)))
            ∙ half_alike (total ws) (alias cs e) (alias cs f) (word e) (word f) (λ same. apart (together cs e f he hf same));
      }

module _ (us vs cs : List ℕ) (words : Words (us ++ vs) cs) (e p : ℕ) (h : p < 2 ^ total us) where
  a : ℕ
  a = alias cs e

  fits : a < 2 ^ (total vs + total us)
  unfolding a
  fits = subst (λ (n : ℕ). alias cs e < 2 ^ n) (total_append us vs) (alias_word (us ++ vs) cs words e)

  one : stratum (us ++ vs) (alias cs e) ≤ length us → (t : ℕ) → t < 2 ^ total vs → sign_in cs e (run_number us p t) ≡ sign_in cs e p
  one l t _ =
      ap (λ (b : Bool). cond b Plus Minus)
      (plot_one (total us) (alias cs e) p t h (stratum_low us vs (alias cs e) (alias_word (us ++ vs) cs words e) l))

  plus_half : length us < stratum (us ++ vs) (alias cs e) → 2 * count (λ t. evenly (alias cs e) (run_number us p t)) (2 ^ total vs) ≡ 2 ^ total vs
  unfolding a
  plus_half l = plot_half (total us) (total vs) (alias cs e) p h fits (λ z. let k = stratum_le us vs (alias cs e) z in omega arith)

  half : length us < stratum (us ++ vs) (alias cs e) → (g : Sign) → 2 * count (λ t. same_sign g (sign_in cs e (run_number us p t))) (2 ^ total vs) ≡ 2 ^ total vs
  half l Plus =
      ap (λ (n : ℕ). 2 * n) (count_same (λ t. same_sign Plus (sign_in cs e (run_number us p t))) (λ t. evenly (alias cs e) (run_number us p t)) (2 ^ total vs) (λ t _. plus_test (evenly (alias cs e) (run_number us p t))))
      ∙ plus_half l
  half l Minus =
      let rest = count_both (λ t. evenly (alias cs e) (run_number us p t)) (2 ^ total vs) in
      let same = count_same (λ t. same_sign Minus (sign_in cs e (run_number us p t))) (λ t. not (evenly (alias cs e) (run_number us p t))) (2 ^ total vs) (λ t _. minus_test (evenly (alias cs e) (run_number us p t))) in
      omega (arith, plus_half l, rest, same)

  only : ((t : ℕ) → t < 2 ^ total vs → sign_in cs e (run_number us p t) ≡ sign_in cs e p) → stratum (us ++ vs) (alias cs e) ≤ length us
  only same = go (dec_lt (length us) (stratum (us ++ vs) (alias cs e)))
    where
      go : Dec (length us < stratum (us ++ vs) (alias cs e)) → stratum (us ++ vs) (alias cs e) ≤ length us
      go (no n) = omega arith
      go (yes l) =
          let all = count_same (λ t. same_sign (sign_in cs e p) (sign_in cs e (run_number us p t))) (λ _. true) (2 ^ total vs) (λ t k. ap (same_sign (sign_in cs e p)) (same t k) ∙ same_self (sign_in cs e p)) in
          absurd (omega (arith, half l (sign_in cs e p), all, count_one true (2 ^ total vs), pow_pos (total vs)))

  pub plot_law : OneOrHalf us vs cs e p
  plot_law = record { one = one; only = only; half = half }

pub sign_fact : SignFact
sign_fact us vs ts cs key = (halves (us ++ vs) cs key.words, plot_law us vs cs key.words)
