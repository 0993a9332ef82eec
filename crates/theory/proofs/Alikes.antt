-- Twins have the same strata and the same chains, so they are alike in all that is read off these.
use Rattle.std.proofs.Common.{◌≡◌, ℕ, ◌%◌, ◌^◌, ◌<◌, Bool, eqb, List, length, sym, ap, ◌∙◌, subst, ap₂, mod-lt, pow_pos}
use Rattle.theory.specs.declared.wish.Wish.{Wish}
use Rattle.theory.specs.Words.{alias, stratum}
use Rattle.theory.specs.Keys.{Sound, Twins}
use Rattle.theory.specs.Alikes.{AlikeFact}
use Rattle.theory.proofs.Words.{alias_mod}
use Rattle.theory.proofs.Tables.{same_test}
use Rattle.theory.proofs.Views.{strata_of, shares, tally_by, resolution_by, chain_by, MeetsBy, tally_by_lem, resolution_by_lem, chain_by_lem, meets_by}

module _ (ws ts cs ds : List ℕ) (kc : Sound ws ts cs) (kd : Sound ws ts ds) (t : Twins ws (length ts) cs ds) where
  abbrev n : ℕ
  n = length ts

  -- only the factors that there are count
  low : (us : List ℕ) → length us ≡ n → (e : ℕ) → alias us e ≡ alias us (e % 2 ^ n)
  low us size e = sym (subst (λ (m : ℕ). alias us (e % 2 ^ m) ≡ alias us e) size (alias_mod us e))

  below : (e : ℕ) → e % 2 ^ n < 2 ^ n
  below e = mod-lt e (pow_pos n)

  same_strata : strata_of ws cs ≡ strata_of ws ds
  same_strata = λ i e. at e i
    where
      at : (e : ℕ) → strata_of ws cs e ≡ strata_of ws ds e
      at e = ap (stratum ws) (low cs kc.size e) ∙ t.strata (e % 2 ^ n) (below e) ∙ ap (stratum ws) (sym (low ds kd.size e))

  same_chains : shares cs ≡ shares ds
  same_chains = λ i e f. at e f i
    where
      at : (e f : ℕ) → shares cs e f ≡ shares ds e f
      at e f =
          let iff = t.chains (e % 2 ^ n) (f % 2 ^ n) (below e) (below f) in
          ap₂ eqb (low cs kc.size e) (low cs kc.size f)
          ∙ same_test (alias cs (e % 2 ^ n)) (alias cs (f % 2 ^ n)) (alias ds (e % 2 ^ n)) (alias ds (f % 2 ^ n)) iff.0 iff.1
          ∙ sym (ap₂ eqb (low ds kd.size e) (low ds kd.size f))

  -- the one argument: whatever is made of the number of factors, the strata and the chains is the same for both
  pub made_alike : {X : Type 0} (make : ℕ → (ℕ → ℕ) → (ℕ → ℕ → Bool) → X) → make (length cs) (strata_of ws cs) (shares cs) ≡ make (length ds) (strata_of ws ds) (shares ds)
  made_alike make = λ i. make ((kc.size ∙ sym kd.size) i) (same_strata i) (same_chains i)

  wishes_alike : (wish : Wish) → MeetsBy (length cs) (strata_of ws cs) (shares cs) (length ws) wish → MeetsBy (length ds) (strata_of ws ds) (shares ds) (length ws) wish
  wishes_alike wish =
      subst (λ (v : ℕ × (ℕ → ℕ) × (ℕ → ℕ → Bool)). MeetsBy (length cs) (strata_of ws cs) (shares cs) (length ws) wish → MeetsBy v.0 v.1 v.2 (length ws) wish)
      (made_alike (λ m s c. (m, s, c))) (λ m. m)

twins_back : (ws : List ℕ) (n : ℕ) (cs ds : List ℕ) → Twins ws n cs ds → Twins ws n ds cs
twins_back ws n cs ds t = record {
  strata = λ e h. sym (t.strata e h);
  chains = λ e f h l. ((t.chains e f h l).1, (t.chains e f h l).0);
}

pub alike_fact : AlikeFact
alike_fact ws ts cs ds kc kd t =
    record {
      tallies = tally_by_lem ws cs kc.words ∙ made_alike ws ts cs ds kc kd t tally_by ∙ sym (tally_by_lem ws ds kd.words);
      resolutions = resolution_by_lem ws cs kc.words ∙ made_alike ws ts cs ds kc kd t resolution_by ∙ sym (resolution_by_lem ws ds kd.words);
      chains = λ e. chain_by_lem ws cs kc.words e ∙ made_alike ws ts cs ds kc kd t (λ m s c. chain_by m s c e) ∙ sym (chain_by_lem ws ds kd.words e);
      wishes = λ wish _. (
        λ m. (meets_by ws ds kd.words wish).1 (wishes_alike ws ts cs ds kc kd t wish ((meets_by ws cs kc.words wish).0 m)),
        λ m. (meets_by ws cs kc.words wish).1 (wishes_alike ws ts ds cs kd kc (twins_back ws (length ts) cs ds t) wish ((meets_by ws ds kd.words wish).0 m)),
      );
    }
