-- The members of a chain are the effects with its alias.
use Rattle.std.proofs.Common.{◌≡◌, ℕ, zero, suc, ◌+◌, ◌^◌, ◌<◌, ◌≤◌, Bool, true, false, cond, ◌⊎◌, List, [], ◌∷◌, ◌++◌, length, get_or, filter, sym, refl, ap, ◌∙◌, subst, inl, inr, add-one, arith}
use Rattle.std.specs.List.{range_with_len, ContainsAt as Has, AllByRecursion}
use Rattle.std.proofs.lemmas.List.{append-nil, length_push, get_or_append_left, get_or_push}
use Rattle.std.proofs.lemmas.List.FromFn.{length-range_with_len, get_or-range_with_len}
use Rattle.std.proofs.ByRecursion.{has_append_left, has_push, all-has, All-get_or, All-from_get_or, all_kept_by, kept_by_passes}
use Rattle.std.proofs.lemmas.Bool.{cases_eq, cases_lt, eq-eqb, eqb-true}
use Rattle.theory.specs.Words.{alias}
use Rattle.theory.specs.Chains.{with_alias}
use Rattle.theory.specs.Signs.{Together}
use Rattle.theory.specs.Laws.{Rising}
use Rattle.theory.proofs.Classes.{has_alias, kept_more, kept_yes}

-- a number below n that passes is kept
pub in_kept : (p : ℕ → Bool) (n k : ℕ) → k < n → p k ≡ true → Has (filter p (range_with_len 0 n)) k
in_kept p zero k h t = absurd (omega arith)
in_kept p (suc n) k h t = subst (λ (m : ℕ). Has (filter p (range_with_len 0 m)) k) (add-one n) (go (λ l. in_kept p n k l t) (cases_eq k n))
  where
    go : (k < n → Has (filter p (range_with_len 0 n)) k) → (k ≡ n) ⊎ (k ≡ n → ⊥) → Has (filter p (range_with_len 0 (n + 1))) k
    go rec (inl e) =
        subst (λ (j : ℕ). Has (filter p (range_with_len 0 (n + 1))) j) (sym e)
        (subst (λ (xs : List ℕ). Has xs n) (sym (kept_yes p n (ap p (sym e) ∙ t))) (has_push (filter p (range_with_len 0 n)) n))
    go rec (inr n') = subst (λ (xs : List ℕ). Has xs k) (sym (kept_more p n)) (has_append_left (filter p (range_with_len 0 n)) _ k (rec (omega arith)))

-- what is kept of the numbers below n is below n
kept_below : (p : ℕ → Bool) (n : ℕ) → AllByRecursion (λ x. x < n) (filter p (range_with_len 0 n))
kept_below p n =
    all_kept_by p (λ x. x < n) (range_with_len 0 n)
    (All-from_get_or (λ x. x < n) (range_with_len 0 n) 0 (λ i h. at i (subst (λ (m : ℕ). i < m) (length-range_with_len 0 n) h)))
  where
    at : (i : ℕ) → i < n → get_or (range_with_len 0 n) i 0 < n
    at i h = omega (arith, get_or-range_with_len 0 n i 0 h)

-- and passes the test
pub kept_member : (cs : List ℕ) (v e : ℕ) → Has (with_alias cs v) e → (e < 2 ^ length cs) × (alias cs e ≡ v)
kept_member cs v e h = (
  all-has (λ x. x < 2 ^ length cs) (with_alias cs v) e (kept_below (has_alias cs v) (2 ^ length cs)) h,
  eqb-true (alias cs e) v (all-has (λ x. has_alias cs v x ≡ true) (with_alias cs v) e (kept_by_passes (has_alias cs v) (range_with_len 0 (2 ^ length cs))) h),
)

-- a number above all of a rising list goes to its end
rising_push : (xs : List ℕ) (n : ℕ) → Rising xs → AllByRecursion (λ x. x < n) xs → Rising (xs ++ n ∷ [])
rising_push xs n up low i j h l = go (cases_lt j (length xs))
  where
    long : length (xs ++ n ∷ []) ≡ length xs + 1
    long = length_push xs n

    first : i < length xs → get_or (xs ++ n ∷ []) i 0 ≡ get_or xs i 0
    first k = get_or_append_left xs (n ∷ []) 0 i k

    go : (j < length xs) ⊎ (length xs ≤ j) → get_or (xs ++ n ∷ []) i 0 < get_or (xs ++ n ∷ []) j 0
    go (inl k) = omega (arith, first (omega arith), get_or_append_left xs (n ∷ []) 0 j k, up i j h k)
    go (inr k) = omega (arith, first (omega (arith, long)), get_or_push xs n 0 j (omega (arith, long)), All-get_or (λ x. x < n) xs i 0 (omega (arith, long)) low)

pub kept_rising : (p : ℕ → Bool) (n : ℕ) → Rising (filter p (range_with_len 0 n))
kept_rising p zero = λ i j h l. absurd (omega arith)
kept_rising p (suc n) =
    subst (λ (m : ℕ). Rising (filter p (range_with_len 0 m))) (add-one n)
    (subst Rising (sym (kept_more p n)) (go (p n) (kept_rising p n)))
  where
    go : (b : Bool) → Rising (filter p (range_with_len 0 n)) → Rising (filter p (range_with_len 0 n) ++ cond b (n ∷ []) [])
    go true up = rising_push (filter p (range_with_len 0 n)) n up (kept_below p n)
    go false up = subst Rising (sym (append-nil (filter p (range_with_len 0 n)))) up

-- effects with equal aliases stand in one chain
pub together : (cs : List ℕ) (e f : ℕ) → e < 2 ^ length cs → f < 2 ^ length cs → alias cs e ≡ alias cs f → Together cs e f
together cs e f he hf same = (
  f,
  in_kept (has_alias cs (alias cs f)) (2 ^ length cs) e he (eq-eqb (alias cs e) (alias cs f) same),
  in_kept (has_alias cs (alias cs f)) (2 ^ length cs) f hf (eq-eqb (alias cs f) (alias cs f) refl),
)

-- and only those
pub together_same : (cs : List ℕ) (e f : ℕ) → Together cs e f → alias cs e ≡ alias cs f
together_same cs e f t = (kept_member cs (alias cs t.0) e t.1).1 ∙ sym (kept_member cs (alias cs t.0) f t.2).1
