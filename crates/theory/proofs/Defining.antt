-- The defining words, and the least length of one.
use Rattle.std.proofs.Common.{◌≡◌, ℕ, zero, suc, ◌+◌, ◌-◌, ◌/◌, ◌%◌, ◌^◌, ◌<◌, ◌≤◌, Bool, true, false, cond, ◌&&◌, eqb, ◌≢◌, ◌⊎◌, List, ◌∷◌, length, get_or, Some, filter, sym, refl, ap, ◌∙◌, subst, inl, inr, pow-suc, arith, pow_pos}
use lib.Count.{ones, ones_step, ones-le}
use Rattle.std.specs.List.{range_with_len, ContainsAt as Has}
use Rattle.std.proofs.lemmas.List.FromFn.{length-range_with_len, get_or-range_with_len}
use Rattle.std.proofs.ByRecursion.{all-has, All-from_get_or, all_kept_by}
use Rattle.std.proofs.lemmas.Bool.{cases_eq, cases_Bool, eq-eqb, ne_eqb, eqb-true, and_parts, and_from}
use Rattle.theory.specs.Words.{total, alias}
use Rattle.theory.specs.Chains.{with_alias}
use Rattle.theory.specs.Tallies.{count, members, first_length, resolution}
use Rattle.theory.specs.Laws.{Chained, Defining, defining_words, DefiningFact, Resolves, ResolutionFact}
use Rattle.theory.proofs.Words.{alias_0}
use Rattle.theory.proofs.ChainLaws.{chain_fact}

-- ---- the chain of the mean
mean_first : (cs : List ℕ) → with_alias cs 0 ≡ 0 ∷ defining_words cs
mean_first cs =
    let one : 2 ^ length cs ≡ suc (2 ^ length cs - 1) = omega (arith, pow_pos (length cs)) in
    ap (λ (m : ℕ). filter (λ e. eqb (alias cs e) 0) (range_with_len 0 m)) one
    ∙ ap (λ (b : Bool). cond b (0 ∷ defining_words cs) (defining_words cs)) (eq-eqb (alias cs 0) 0 (alias_0 cs))

-- a rising list that begins with 0 has no other 0
has_rest : (xs : List ℕ) (e : ℕ) → Has (0 ∷ xs) e → e ≢ 0 → Has xs e
has_rest xs e (zero, h, at) n = absurd (n (sym (at 0)))
has_rest xs e (suc k, h, at) n = (k, omega arith, at)

has_more : (xs : List ℕ) (x e : ℕ) → Has xs e → Has (x ∷ xs) e
has_more xs x e (k, h, at) = (suc k, omega arith, at)

-- what comes after 0 is above it
later : (cs : List ℕ) (e : ℕ) → Has (defining_words cs) e → 0 < e
later cs e = all-has (λ x. 0 < x) (defining_words cs) e (all_kept_by (λ x. eqb (alias cs x) 0) (λ x. 0 < x) (range_with_len 1 (2 ^ length cs - 1)) (All-from_get_or (λ x. 0 < x) (range_with_len 1 (2 ^ length cs - 1)) 0 at))
  where
    at : (i : ℕ) → i < length (range_with_len 1 (2 ^ length cs - 1)) → 0 < get_or (range_with_len 1 (2 ^ length cs - 1)) i 0
    at i h = omega (arith, get_or-range_with_len 1 (2 ^ length cs - 1) i 0 (omega (arith, length-range_with_len 1 (2 ^ length cs - 1))))

pub defining_fact : DefiningFact
defining_fact ws ts cs key = (
  ap (with_alias cs) (alias_0 cs) ∙ mean_first cs,
  omega (arith, law.many, ap length (mean_first cs)),
  λ e. (to e, from e),
)
  where
    law : Chained ws cs 0
    law = (chain_fact ws ts cs key).1 0 (pow_pos (total ws))

    from : (e : ℕ) → Defining cs e → Has (defining_words cs) e
    from e d = has_rest (defining_words cs) e (subst (λ (xs : List ℕ). Has xs e) (mean_first cs) ((law.holds e).1 (d.0, d.2))) d.1

    to : (e : ℕ) → Has (defining_words cs) e → Defining cs e
    to e h =
        let m = (law.holds e).0 (subst (λ (xs : List ℕ). Has xs e) (sym (mean_first cs)) (has_more (defining_words cs) 0 e h)) in
        (m.0, (λ z. omega (arith, later cs e h)), m.1)

-- ---- counts that are 0, and others
pub count_none : (p : ℕ → Bool) (n : ℕ) → count p n ≡ 0 → (e : ℕ) → e < n → p e ≡ true → ⊥
count_none p zero z e h t = omega arith
count_none p (suc n) z e h t = go (cases_eq e n) (λ l. count_none p n (omega arith) e l t)
  where
    go : (e ≡ n) ⊎ (e ≡ n → ⊥) → (e < n → ⊥) → ⊥
    go (inl s) rec = omega (arith, ap {B = ℕ} (λ (b : Bool). cond b 1 0) (sym (ap p s) ∙ t))
    go (inr d) rec = rec (omega arith)

pub count_some : (p : ℕ → Bool) (n : ℕ) → count p n ≢ 0 → (e : ℕ) × (e < n) × (p e ≡ true)
count_some p zero z = absurd (z refl)
count_some p (suc n) z = go (cases_Bool (p n)) (cases_eq (count p n) 0) (count_some p n)
  where
    go : (p n ≡ true) ⊎ (p n ≡ false) → (count p n ≡ 0) ⊎ (count p n ≡ 0 → ⊥) → (count p n ≢ 0 → (e : ℕ) × (e < n) × (p e ≡ true)) → (e : ℕ) × (e < suc n) × (p e ≡ true)
    go (inl t) _ rec = (n, omega arith, t)
    go (inr f) (inl c) rec = absurd (z (omega (arith, ap {B = ℕ} (λ (b : Bool). cond b 1 0) f)))
    go (inr f) (inr d) rec = let k = rec d in (k.0, omega (arith, k.1), k.2)

-- ---- lengths
pub ones_none : ones 0 ≡ 0
unfolding ones
ones_none = refl

ones_some : (n e : ℕ) → e < 2 ^ n → e ≢ 0 → 1 ≤ ones e
ones_some zero e h z = absurd (z (omega arith))
ones_some (suc n) e h z = go (cases_eq (e % 2) 0) (ones_some n (e / 2) (omega (arith, pow-suc 2 n)))
  where
    go : (e % 2 ≡ 0) ⊎ (e % 2 ≡ 0 → ⊥) → (e / 2 ≢ 0 → 1 ≤ ones (e / 2)) → 1 ≤ ones e
    go (inl even) rec = omega (arith, ones_step e, rec (λ q. z (omega arith)))
    go (inr odd) rec = omega (arith, ones_step e)

-- ---- the least length of a defining word
module _ (cs : List ℕ) where
  -- an effect that is counted among the words of length j
  counted_to : (j e : ℕ) → e < 2 ^ length cs → 1 ≤ j → (eqb (ones e) j && eqb (alias cs e) 0) ≡ true → Defining cs e × (ones e ≡ j)
  counted_to j e h l t =
      let both = and_parts (eqb (ones e) j) (eqb (alias cs e) 0) t in
      let long = eqb-true (ones e) j both.0 in
      ((h, λ z. omega (arith, ap ones z, ones_none), eqb-true (alias cs e) 0 both.1), long)

  counted_from : (j e : ℕ) → Defining cs e → ones e ≡ j → (eqb (ones e) j && eqb (alias cs e) 0) ≡ true
  counted_from j e d long = and_from (eqb (ones e) j) (eqb (alias cs e) 0) (eq-eqb (ones e) j long) (eq-eqb (alias cs e) 0 d.2)

  first_resolves : (j m : ℕ) → 1 ≤ j → ((e : ℕ) → Defining cs e → j ≤ ones e) → ((e : ℕ) → Defining cs e → ones e < j + m) → Resolves cs (first_length cs j m)
  first_resolves j zero l low high = λ e d. omega (arith, low e d, high e d)
  first_resolves j (suc m) l low high =
      go (cases_eq (members cs j 0) 0) (λ past. first_resolves (suc j) m (omega arith) past (λ e d. omega (arith, high e d)))
    where
      go : (members cs j 0 ≡ 0) ⊎ (members cs j 0 ≡ 0 → ⊥) → (((e : ℕ) → Defining cs e → suc j ≤ ones e) → Resolves cs (first_length cs (suc j) m))
          → Resolves cs (cond (eqb (members cs j 0) 0) (first_length cs (suc j) m) (Some j))
      go (inl z) rec =
          subst (λ (b : Bool). Resolves cs (cond b (first_length cs (suc j) m) (Some j))) (sym (eq-eqb (members cs j 0) 0 z))
          (rec (λ e d. longer e d (cases_eq (ones e) j)))
        where
          longer : (e : ℕ) → Defining cs e → (ones e ≡ j) ⊎ (ones e ≡ j → ⊥) → suc j ≤ ones e
          longer e d (inl s) = absurd (count_none (λ e. eqb (ones e) j && eqb (alias cs e) 0) (2 ^ length cs) z e d.0 (counted_from j e d s))
          longer e d (inr n) = omega (arith, low e d)
      go (inr some) rec =
          subst (λ (b : Bool). Resolves cs (cond b (first_length cs (suc j) m) (Some j))) (sym (ne_eqb (members cs j 0) 0 some))
          (let k = count_some (λ e. eqb (ones e) j && eqb (alias cs e) 0) (2 ^ length cs) some in
          let d = counted_to j k.0 k.1 l k.2 in
          ((k.0, d.0, d.1), low))

  pub resolves : Resolves cs (resolution cs)
  resolves =
      first_resolves 1 (length cs) (omega arith) (λ e d. ones_some (length cs) e d.0 d.1)
      (λ e d. omega (arith, ones-le (length cs) e d.0))

pub resolution_fact : ResolutionFact
resolution_fact = resolves
