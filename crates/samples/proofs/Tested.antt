-- Tests that antt computes, each with what it decides.
use Rattle.std.proofs.Common.{◌≡◌, ℕ, zero, suc, ◌^◌, ◌<◌, ◌≤◌, Bool, true, false, cond, not, ◌&&◌, ◌||◌, eqb, ltb, leb, ◌≢◌, ◌↔◌, List, [], ◌∷◌, length, get_or, Decides, filter, sym, refl, subst, inl, inr, true≢false, le-leb, leb-true}
use lib.Count.{ones}
use Rattle.std.specs.List.{AllByRecursion}
use Rattle.std.proofs.lemmas.Bool.Decides.{Decides-eqb, Decides-ltb, Decides-not, Decides-and, Decides-below_and, Decides-below_or}
use Rattle.theory.specs.declared.wish.Wish.{Wish}
use Rattle.theory.specs.declared.wish.Wish.TheVariants.{Clear, Apart, Fine, Word, Least}
use Rattle.theory.specs.Words.{total, alias, stratum}
use Rattle.theory.specs.Keys.{Words, Own, Sound, Twins}
use Rattle.theory.specs.Wishes.{Meets}
use Rattle.finding.specs.Listing.{In}

-- a test of P
abbrev pub Test : Type 0 → Type 0
Test P = (r : Bool) × Decides r P

pub passed : {P : Type 0} (t : Test P) → t.0 ≡ true → P
passed t e = t.1.0 e

-- ---- numbers
abbrev same : (m n : ℕ) → Test (m ≡ n)
same m n = (eqb m n, Decides-eqb m n)

abbrev less : (m n : ℕ) → Test (m < n)
less m n = (ltb m n, Decides-ltb m n)

pub decides_leb : (m n : ℕ) → Decides (leb m n) (m ≤ n)
decides_leb m n = (leb-true m n, le-leb m n)

abbrev most : (m n : ℕ) → Test (m ≤ n)
most m n = (leb m n, decides_leb m n)

-- ---- parts
abbrev both : {P Q : Type 0} → Test P → Test Q → Test (P × Q)
both t u = (t.0 && u.0, Decides-and t.0 u.0 t.1 u.1)

abbrev fails : {P : Type 0} → Test P → Test (P → ⊥)
fails t = (not t.0, Decides-not t.0 t.1)

pub decides_then : {P Q : Type 0} (x y : Bool) → Decides x P → Decides y Q → Decides (not x || y) (P → Q)
decides_then true y d e = (λ h p. e.0 h, λ f. e.1 (f (d.0 refl)))
decides_then false y d e = (λ h p. absurd (true≢false (sym (d.1 p))), λ f. refl)

abbrev then : {P Q : Type 0} → Test P → Test Q → Test (P → Q)
then t u = (not t.0 || u.0, decides_then t.0 u.0 t.1 u.1)

-- ---- all numbers below n
abbrev every : (ℕ → Bool) → ℕ → Bool
every p zero = true
every p (suc n) = p n && every p n

abbrev some : (ℕ → Bool) → ℕ → Bool
some p zero = false
some p (suc n) = p n || some p n

abbrev each : {P : ℕ → Type 0} (n : ℕ) → ((k : ℕ) → Test (P k)) → Test ((k : ℕ) → k < n → P k)
each {P} n t = (every (λ k. (t k).0) n, Decides-below_and (λ k. (t k).0) P (every (λ k. (t k).0)) (λ k. (t k).1) refl (λ _. refl) n)

abbrev one : {P : ℕ → Type 0} (n : ℕ) → ((k : ℕ) → Test (P k)) → Test ((k : ℕ) × (k < n) × P k)
one {P} n t = (some (λ k. (t k).0) n, Decides-below_or (λ k. (t k).0) P (some (λ k. (t k).0)) (λ k. (t k).1) refl (λ _. refl) n)

-- ---- keys
abbrev pub meets : (ws cs : List ℕ) (wish : Wish) → Test (Meets ws cs wish)
meets ws cs (Clear e) = each (2 ^ length cs) (λ f. then (same (alias cs f) (alias cs e)) (both (fails (same (ones f) 1)) (then (same (ones f) 2) (same f e))))
meets ws cs (Apart e f) = fails (same (alias cs e) (alias cs f))
meets ws cs (Fine e) = same (stratum ws (alias cs e)) (length ws)
meets ws cs (Word e) = same (alias cs e) 0
meets ws cs (Least r) = each (2 ^ length cs) (λ f. then (fails (same f 0)) (then (same (alias cs f) 0) (most r (ones f))))

abbrev pub all_meet : (ws cs : List ℕ) (wishes : List Wish) → Test (AllByRecursion (Meets ws cs) wishes)
all_meet ws cs [] = (true, (λ h. tt, λ h. refl))
all_meet ws cs (wish ∷ wishes) = both (meets ws cs wish) (all_meet ws cs wishes)

-- what a sound key is asked, as the test goes over it
abbrev pub Differ : List ℕ → Type 0
Differ cs = (j : ℕ) → j < length cs → (i : ℕ) → i < j → get_or cs i 0 ≢ get_or cs j 0

abbrev pub Reached : List ℕ → List ℕ → Type 0
Reached ws cs = (v : ℕ) → v < 2 ^ total ws → (e : ℕ) × (e < 2 ^ length cs) × (alias cs e ≡ v)

abbrev pub sound : (ws ts cs : List ℕ) → Test ((Words ws cs × Own ws ts cs) × (Differ cs × Reached ws cs))
sound ws ts cs =
    both
    (both (each (length cs) (λ i. less (get_or cs i 0) (2 ^ total ws))) (each (length cs) (λ i. same (stratum ws (get_or cs i 0)) (get_or ts i 0))))
    (both (each (length cs) (λ j. each j (λ i. fails (same (get_or cs i 0) (get_or cs j 0))))) (each (2 ^ total ws) (λ v. one (2 ^ length cs) (λ e. same (alias cs e) v))))

pub sound_by : (ws ts cs : List ℕ) → length cs ≡ length ts → (sound ws ts cs).0 ≡ true → Sound ws ts cs
sound_by ws ts cs size e =
    let k = passed (sound ws ts cs) e in
    record { size = size; words = k.0.0; own = k.0.1; apart = λ i j l m. k.1.0 j m i l; full = λ v l. ∣ k.1.1 v l ∣₁ }

-- and twins
abbrev pub Strata : List ℕ → ℕ → List ℕ → List ℕ → Type 0
Strata ws n cs ds = (e : ℕ) → e < 2 ^ n → stratum ws (alias cs e) ≡ stratum ws (alias ds e)

abbrev pub Chains : ℕ → List ℕ → List ℕ → Type 0
Chains n cs ds = (e : ℕ) → e < 2 ^ n → (f : ℕ) → f < 2 ^ n → (alias cs e ≡ alias cs f) ↔ (alias ds e ≡ alias ds f)

abbrev pub twins : (ws : List ℕ) (n : ℕ) (cs ds : List ℕ) → Test (Strata ws n cs ds × Chains n cs ds)
twins ws n cs ds =
    both (each (2 ^ n) (λ e. same (stratum ws (alias cs e)) (stratum ws (alias ds e))))
    (each (2 ^ n) (λ e. each (2 ^ n) (λ f.
    both (then (same (alias cs e) (alias cs f)) (same (alias ds e) (alias ds f))) (then (same (alias ds e) (alias ds f)) (same (alias cs e) (alias cs f))))))

pub twins_by : (ws : List ℕ) (n : ℕ) (cs ds : List ℕ) → (twins ws n cs ds).0 ≡ true → Twins ws n cs ds
twins_by ws n cs ds e = let k = passed (twins ws n cs ds) e in record { strata = k.0; chains = λ e f l m. k.1 e l f m }

-- ---- the members of a list that pass
module _ {P : List ℕ → Type 0} (t : (key : List ℕ) → Test (P key)) where
  abbrev pub passing : List (List ℕ) → List (List ℕ)
  passing keys = filter (λ key. (t key).0) keys

  more : (b : Bool) (key k : List ℕ) (keys : List (List ℕ)) → In key keys → In key (cond b (k ∷ keys) keys)
  more true key k keys h = inr h
  more false key k keys h = h

  pub in_passing : (key : List ℕ) (keys : List (List ℕ)) → In key keys → P key → In key (passing keys)
  in_passing key [] h p = h
  in_passing key (k ∷ keys) (inl e) p = rw (sym e, (t key).1.1 p) (inl refl)
  in_passing key (k ∷ keys) (inr h) p = more (t k).0 key k (passing keys) (in_passing key keys h p)

  pub passing_in : (key : List ℕ) (keys : List (List ℕ)) → In key (passing keys) → In key keys × P key
  passing_in key [] h = absurd h
  passing_in key (k ∷ keys) h = go (λ h. let r = passing_in key keys h in (inr r.0, r.1)) (t k).0 refl h
    where
      go : (In key (passing keys) → In key (k ∷ keys) × P key) → (b : Bool) → (t k).0 ≡ b → In key (cond b (k ∷ passing keys) (passing keys)) → In key (k ∷ keys) × P key
      go later true e (inl f) = (inl f, subst P (sym f) (passed (t k) e))
      go later true e (inr h) = later h
      go later false e h = later h
