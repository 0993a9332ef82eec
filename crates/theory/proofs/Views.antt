-- What is asked of a key is read off two things: the stratum of each effect, and which effects share a chain.
use Rattle.std.proofs.Common.{◌≡◌, ℕ, zero, suc, ◌*◌, ◌^◌, ◌<◌, ◌≤◌, Bool, true, false, cond, ◌&&◌, eqb, ◌≢◌, ◌↔◌, List, length, Some, None, filter, Option, sym, refl, ap, ◌∙◌, ap₂, arith}
use lib.Count.{ones}
use Rattle.std.specs.List.{range_with_len}
use Rattle.std.proofs.lemmas.Bool.{eq-eqb, ne_eqb, eqb-true, eqb-false}
use Rattle.theory.specs.declared.tally.Tally.{Tally}
use Rattle.theory.specs.declared.wish.Wish.{Wish}
use Rattle.theory.specs.declared.wish.Wish.TheVariants.{Clear, Apart, Fine, Word, Least}
use Rattle.theory.specs.Words.{total, alias, stratum}
use Rattle.theory.specs.Keys.{Words}
use Rattle.theory.specs.Chains.{chain}
use Rattle.theory.specs.Tallies.{count, sum_to, members, free, word_count, free_squares, tally, first_length, resolution}
use Rattle.theory.specs.Wishes.{Meets}
use Rattle.theory.proofs.Words.{alias_0}
use Rattle.theory.proofs.Sounds.{alias_word}
use Rattle.theory.proofs.Sums.{sum_below, by_effects}

-- the two things, of a key
abbrev pub strata_of : List ℕ → List ℕ → ℕ → ℕ
strata_of ws cs e = stratum ws (alias cs e)

abbrev pub shares : List ℕ → ℕ → ℕ → Bool
shares cs e f = eqb (alias cs e) (alias cs f)

-- ---- the figures, from any two such things over n factors
module _ (n : ℕ) (level : ℕ → ℕ) (together : ℕ → ℕ → Bool) where
  -- effects of length j in the chain of f
  abbrev members_by : ℕ → ℕ → ℕ
  members_by j f = count (λ e. eqb (ones e) j && together e f) (2 ^ n)

  abbrev free_by : ℕ → ℕ → Bool
  free_by l f = eqb (level f) l && eqb (members_by 1 f) 0

  abbrev pairs_by : ℕ → ℕ
  pairs_by l = count (λ e. eqb (ones e) 2 && free_by l e) (2 ^ n)

  abbrev squares_by : ℕ → ℕ
  squares_by l = sum_to (λ e. cond (eqb (ones e) 2) (cond (free_by l e) (members_by 2 e) 0) 0) (2 ^ n)

  pub tally_by : Tally
  tally_by = record {
    a3 = members_by 3 0;
    a4 = members_by 4 0;
    a5 = members_by 5 0;
    a6 = members_by 6 0;
    a7 = members_by 7 0;
    a8 = members_by 8 0;
    a9 = members_by 9 0;
    a10 = members_by 10 0;
    m1 = pairs_by 1;
    m2 = pairs_by 2;
    q1 = squares_by 1;
    q2 = squares_by 2;
  }

  abbrev first_by : ℕ → ℕ → Option ℕ
  first_by j zero = None
  first_by j (suc m) = cond (eqb (members_by j 0) 0) (first_by (suc j) m) (Some j)

  pub resolution_by : Option ℕ
  resolution_by = first_by 1 n

  pub chain_by : ℕ → List ℕ
  chain_by e = filter (λ f. together f e) (range_with_len 0 (2 ^ n))

  abbrev pub MeetsBy : ℕ → Wish → Type 0
  MeetsBy top (Clear e) = (f : ℕ) → f < 2 ^ n → together f e ≡ true → (ones f ≢ 1) × (ones f ≡ 2 → f ≡ e)
  MeetsBy top (Apart e f) = together e f ≡ false
  MeetsBy top (Fine e) = level e ≡ top
  MeetsBy top (Word e) = together e 0 ≡ true
  MeetsBy top (Least r) = (f : ℕ) → f < 2 ^ n → f ≢ 0 → together f 0 ≡ true → r ≤ ones f

-- ---- a key's figures are these
module _ (ws cs : List ℕ) (words : Words ws cs) where
  abbrev n : ℕ
  n = length cs

  words_by : (j : ℕ) → word_count cs j ≡ members_by n (strata_of ws cs) (shares cs) j 0
  words_by j = ap (λ (z : ℕ). count (λ e. eqb (ones e) j && eqb (alias cs e) z) (2 ^ length cs)) (sym (alias_0 cs))

  squares_by_lem : (l : ℕ) → free_squares ws cs l ≡ squares_by n (strata_of ws cs) (shares cs) l
  squares_by_lem l =
      sum_below (λ v. cond (free ws cs l v) (members cs 2 v * members cs 2 v) 0) (λ v. cond (free ws cs l v) (members cs 2 v) 0 * members cs 2 v) (2 ^ total ws)
      (λ v h. square (free ws cs l v) (members cs 2 v))
      ∙ by_effects (λ v. cond (free ws cs l v) (members cs 2 v) 0) (λ e. eqb (ones e) 2) (alias cs) (2 ^ total ws) (2 ^ length cs) (alias_word ws cs words)
    where
      square : (b : Bool) (m : ℕ) → cond b (m * m) 0 ≡ cond b m 0 * m
      square true m = refl
      square false m = omega arith

  pub tally_by_lem : tally ws cs ≡ tally_by n (strata_of ws cs) (shares cs)
  unfolding tally tally_by
  tally_by_lem = cc (words_by 3, words_by 4, words_by 5, words_by 6, words_by 7, words_by 8, words_by 9, words_by 10, squares_by_lem 1, squares_by_lem 2)

  first_by_lem : (j m : ℕ) → first_length cs j m ≡ first_by n (strata_of ws cs) (shares cs) j m
  first_by_lem j zero = refl
  first_by_lem j (suc m) = ap₂ (λ (x : ℕ) (rest : Option ℕ). cond (eqb x 0) rest (Some j)) (words_by j) (first_by_lem (suc j) m)

  pub resolution_by_lem : resolution cs ≡ resolution_by n (strata_of ws cs) (shares cs)
  unfolding resolution_by
  resolution_by_lem = first_by_lem 1 (length cs)

  pub chain_by_lem : (e : ℕ) → chain cs e ≡ chain_by n (strata_of ws cs) (shares cs) e
  unfolding chain_by
  chain_by_lem e = refl

  zero_to : (e : ℕ) → alias cs e ≡ 0 → shares cs e 0 ≡ true
  zero_to e z = eq-eqb (alias cs e) (alias cs 0) (z ∙ sym (alias_0 cs))

  zero_from : (e : ℕ) → shares cs e 0 ≡ true → alias cs e ≡ 0
  zero_from e t = eqb-true (alias cs e) (alias cs 0) t ∙ alias_0 cs

  pub meets_by : (wish : Wish) → Meets ws cs wish ↔ MeetsBy n (strata_of ws cs) (shares cs) (length ws) wish
  meets_by (Clear e) = (λ m f l t. m f l (eqb-true (alias cs f) (alias cs e) t), λ m f l a. m f l (eq-eqb (alias cs f) (alias cs e) a))
  meets_by (Apart e f) = (ne_eqb (alias cs e) (alias cs f), eqb-false (alias cs e) (alias cs f))
  meets_by (Fine e) = (λ m. m, λ m. m)
  meets_by (Word e) = (zero_to e, zero_from e)
  meets_by (Least r) = (λ m f l z t. m f l z (zero_from f t), λ m f l z a. m f l z (zero_to f a))
