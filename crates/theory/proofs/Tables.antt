-- Counts of effects by length and alias, one column after another.
use Rattle.std.proofs.Common.{◌≡◌, ℕ, zero, suc, ◌+◌, ◌*◌, ◌^◌, ◌<◌, ◌≤◌, Bool, false, ◌&&◌, eqb, ◌⊎◌, List, [], ◌∷◌, ◌++◌, length, sym, refl, ap, ◌∙◌, subst, ap₂, inl, inr, one-mul, pow-suc, zero-mul, add-one, arith, pow_mono}
use lib.Bits.{bit_xor, xor_zero_r}
use lib.Count.{ones, ones_in, ones_cat}
use Rattle.std.proofs.lemmas.List.{length_push}
use Rattle.std.proofs.lemmas.Bool.{cases_eq, eq-eqb, ne_eqb}
use Rattle.theory.specs.Words.{total, alias}
use Rattle.theory.specs.Keys.{Words}
use Rattle.theory.specs.Tallies.{count, sum_to, members, free}
use Rattle.theory.specs.Tables.{ColumnFact, WordsFact}
use Rattle.theory.proofs.Words.{cancel_r}
use Rattle.theory.proofs.Counts.{count_same, count_add, count_le, count_mono}
use Rattle.theory.proofs.Linear.{alias_push}
use Rattle.theory.proofs.Sounds.{alias_word}
use Rattle.theory.proofs.Sums.{sum_below, by_words, by_effects, count_ones}

-- ---- tests that agree
pub same_test : (a b c d : ℕ) → (a ≡ b → c ≡ d) → (c ≡ d → a ≡ b) → eqb a b ≡ eqb c d
same_test a b c d f g = go (cases_eq a b)
  where
    go : (a ≡ b) ⊎ (a ≡ b → ⊥) → eqb a b ≡ eqb c d
    go (inl e) = eq-eqb a b e ∙ sym (eq-eqb c d (f e))
    go (inr n) = ne_eqb a b n ∙ sym (ne_eqb c d (λ e. n (g e)))

one_of : ones 1 ≡ 1
unfolding ones
one_of = refl

module _ (cs : List ℕ) (c : ℕ) where
  twice : 2 ^ length (cs ++ c ∷ []) ≡ 2 ^ length cs + 2 ^ length cs
  twice = ap (λ (n : ℕ). 2 ^ n) (length_push cs c ∙ add-one (length cs)) ∙ pow-suc 2 (length cs) ∙ omega arith

  -- the new factor is left out
  without : (e : ℕ) → e < 2 ^ length cs → alias (cs ++ c ∷ []) e ≡ alias cs e
  without e h =
      ap (alias (cs ++ c ∷ [])) (omega (arith, zero-mul (2 ^ length cs))) ∙ alias_push cs c 0 e (omega arith) h
      ∙ ap (bit_xor (alias cs e)) (zero-mul c) ∙ xor_zero_r (alias cs e)

  -- the new factor is in it
  with_it : (e : ℕ) → e < 2 ^ length cs → alias (cs ++ c ∷ []) (2 ^ length cs + e) ≡ bit_xor (alias cs e) c
  with_it e h =
      ap (alias (cs ++ c ∷ [])) (omega (arith, one-mul (2 ^ length cs))) ∙ alias_push cs c 1 e (omega arith) h
      ∙ ap (bit_xor (alias cs e)) (one-mul c)

  one_longer : (e : ℕ) → e < 2 ^ length cs → ones (2 ^ length cs + e) ≡ suc (ones e)
  one_longer e h =
      ap ones (omega (arith, one-mul (2 ^ length cs))) ∙ ones_cat (length cs) 1 e h ∙ omega (arith, one_of)

  -- both halves of the effects
  halves : (j v : ℕ) → members (cs ++ c ∷ []) j v ≡ members cs j v + count (λ e. eqb (suc (ones e)) j && eqb (alias cs e) (bit_xor v c)) (2 ^ length cs)
  halves j v =
      let p : ℕ → Bool = λ e. eqb (ones e) j && eqb (alias (cs ++ c ∷ []) e) v in
      ap (count p) twice ∙ count_add p (2 ^ length cs) (2 ^ length cs)
      ∙ ap₂ (λ (x y : ℕ). x + y)
      (count_same p (λ e. eqb (ones e) j && eqb (alias cs e) v) (2 ^ length cs) (λ e h. ap (λ (a : ℕ). eqb (ones e) j && eqb a v) (without e h)))
      (count_same (λ e. p (2 ^ length cs + e)) (λ e. eqb (suc (ones e)) j && eqb (alias cs e) (bit_xor v c)) (2 ^ length cs)
      (λ e h. ap₂ (λ (l : ℕ) (b : Bool). eqb l j && b) (one_longer e h) (ap (λ (a : ℕ). eqb a v) (with_it e h) ∙ moved (alias cs e))))
    where
      moved : (a : ℕ) → eqb (bit_xor a c) v ≡ eqb a (bit_xor v c)
      moved a =
          same_test (bit_xor a c) v a (bit_xor v c) (λ e. sym (cancel_r a c) ∙ ap (λ (x : ℕ). bit_xor x c) e)
          (λ e. ap (λ (x : ℕ). bit_xor x c) e ∙ cancel_r v c)

  none : (n : ℕ) → count (λ _. false) n ≡ 0
  none zero = refl
  none (suc n) = omega (arith, none n)

  pub members_push_0 : (v : ℕ) → members (cs ++ c ∷ []) 0 v ≡ members cs 0 v
  members_push_0 v =
      halves 0 v
      ∙ omega (arith, count_same (λ e. eqb (suc (ones e)) 0 && eqb (alias cs e) (bit_xor v c)) (λ _. false) (2 ^ length cs) (λ e h. ap (λ (b : Bool). b && eqb (alias cs e) (bit_xor v c)) (ne_eqb (suc (ones e)) 0 (λ z. omega arith))), none (2 ^ length cs))

  pub members_push : (j v : ℕ) → members (cs ++ c ∷ []) (suc j) v ≡ members cs (suc j) v + members cs j (bit_xor v c)
  members_push j v =
      halves (suc j) v
      ∙ ap (λ (x : ℕ). members cs (suc j) v + x)
      (count_same (λ e. eqb (suc (ones e)) (suc j) && eqb (alias cs e) (bit_xor v c)) (λ e. eqb (ones e) j && eqb (alias cs e) (bit_xor v c)) (2 ^ length cs)
      (λ e h. ap (λ (b : Bool). b && eqb (alias cs e) (bit_xor v c)) (same_test (suc (ones e)) (suc j) (ones e) j (λ s. omega arith) (ap suc))))

pub column_fact : ColumnFact
column_fact cs c j v = (members_push_0 cs c v, members_push cs c j v)

pub words_fact : WordsFact
words_fact ws cs l words =
    sym (by_words (free ws cs l) (λ e. eqb (ones e) 2) (alias cs) (2 ^ total ws) (2 ^ length cs) (alias_word ws cs words))

-- ---- bounds

-- no more effects than there are
pub members_le : (cs : List ℕ) (j v : ℕ) → members cs j v ≤ 2 ^ length cs
members_le cs j v = count_le (λ e. eqb (ones e) j && eqb (alias cs e) v) (2 ^ length cs)

pairs_of_ten : count (λ e. eqb (ones e) 2) (2 ^ 10) ≡ 45
unfolding ones ones_in
pairs_of_ten = refl

bounded : (p : ℕ → Bool) (m n b : ℕ) → m ≤ n → count p n ≡ b → count p m ≤ b
bounded p m n b h e = omega (arith, count_mono p m n h)

-- ten factors have 45 interactions, so no chain has more, nor have all chains
pub pairs_le : (ws cs : List ℕ) → Words ws cs → length cs ≤ 10 → sum_to (members cs 2) (2 ^ total ws) ≤ 45
pairs_le ws cs words h =
    subst (λ (m : ℕ). m ≤ 45) (sym all) (bounded (λ e. eqb (ones e) 2) (2 ^ length cs) (2 ^ 10) 45 (pow_mono h) pairs_of_ten)
  where
    all : sum_to (members cs 2) (2 ^ total ws) ≡ count (λ e. eqb (ones e) 2) (2 ^ length cs)
    all =
        sum_below (members cs 2) (λ v. 1 * members cs 2 v) (2 ^ total ws) (λ v l. sym (one-mul (members cs 2 v)))
        ∙ by_effects (λ _. 1) (λ e. eqb (ones e) 2) (alias cs) (2 ^ total ws) (2 ^ length cs) (alias_word ws cs words)
        ∙ count_ones (λ e. eqb (ones e) 2) (2 ^ length cs)
