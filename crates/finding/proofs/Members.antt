-- The keys that the walk gives are those whose columns may stand one after another, and they rise.
use Rattle.std.proofs.Common.{◌≡◌, ℕ, zero, suc, ◌+◌, ◌^◌, ◌<◌, Bool, true, false, cond, ◌&&◌, eqb, List, [], ◌∷◌, ◌++◌, length, Some, None, Option, sym, refl, ap, ◌∙◌, subst, inl, inr, append_assoc, append-nil, eq-eqb, eqb-true}
use Rattle.finding.specs.declared.begun.Opened.{Opened}
use Rattle.finding.specs.Walks.{is_all, next, go_on, keys_from, branch}
use Rattle.finding.specs.Listing.{In, Before, Rising}
use Rattle.finding.proofs.Lists.{in_upto, upto_in, in_go_on, before_front, rising_upto}

-- from o open, the columns cs may stand one after another behind those used, and leave q open
abbrev pub Goes : (w s n1 : ℕ) → List ℕ → Opened → List ℕ → Opened → Type 0
Goes w s n1 used o [] q = (o.whole ≡ q.whole) × (o.sub ≡ q.sub)
Goes w s n1 used o (c ∷ cs) q = (c < 2 ^ (w + s)) × ((p : Opened) × (next w s n1 used o c ≡ Some p) × Goes w s n1 (used ++ c ∷ []) p cs q)

-- every unit factor is open
abbrev pub all_open : (w s : ℕ) → Opened
all_open w s = record { whole = w; sub = s }

module _ (w s n1 : ℕ) where
  leaf_in : (used : List ℕ) (o : Opened) (key : List ℕ) → In key (keys_from w s n1 0 used o) → (o.whole ≡ w) × (o.sub ≡ s) × (key ≡ used)
  unfolding keys_from
  leaf_in used o key h = go (eqb o.whole w) refl (eqb o.sub s) refl h
    where
      go : (p : Bool) → eqb o.whole w ≡ p → (q : Bool) → eqb o.sub s ≡ q → In key (cond (p && q) (used ∷ []) []) → (o.whole ≡ w) × (o.sub ≡ s) × (key ≡ used)
      go true e true f (inl k) = (eqb-true o.whole w e, eqb-true o.sub s f, k)
      go true e true f (inr k) = absurd k
      go true e false f k = absurd k
      go false e q f k = absurd k

  pub in_goes : (r : ℕ) (used : List ℕ) (o : Opened) (key : List ℕ) → In key (keys_from w s n1 r used o)
      → (cs : List ℕ) × (length cs ≡ r) × (key ≡ used ++ cs) × Goes w s n1 used o cs (all_open w s)
  unfolding keys_from
  in_goes zero used o key h = let r = leaf_in used o key h in ([], refl, r.2 ∙ sym (append-nil used), (r.0, r.1))
  in_goes (suc r) used o key h =
      let u = in_upto (branch w s n1 r used o) key (2 ^ (w + s)) h in
      let c : ℕ = u.0 in
      let g = in_go_on (next w s n1 used o c) (keys_from w s n1 r (used ++ c ∷ [])) key u.2 in
      let k = in_goes r (used ++ c ∷ []) g.0 key g.2 in
      (c ∷ k.0, ap suc k.1, k.2 ∙ append_assoc used (c ∷ []) k.0, (u.1, (g.0, g.1, k.3)))

  pub goes_in : (cs used : List ℕ) (o : Opened) → Goes w s n1 used o cs (all_open w s) → In (used ++ cs) (keys_from w s n1 (length cs) used o)
  unfolding keys_from
  goes_in [] used o h = rw (eq-eqb o.whole w h.0, eq-eqb o.sub s h.1) (inl (append-nil used))
  goes_in (c ∷ cs) used o h =
      let p = h.1.0 in
      upto_in (branch w s n1 (length cs) used o) (used ++ c ∷ cs) (2 ^ (w + s)) c h.0
      (subst (λ q. In (used ++ c ∷ cs) (go_on q (keys_from w s n1 (length cs) (used ++ c ∷ [])))) (sym h.1.1)
      (subst (λ (k : List ℕ). In k (keys_from w s n1 (length cs) (used ++ c ∷ []) p)) (append_assoc used (c ∷ []) cs)
      (goes_in cs (used ++ c ∷ []) p h.1.2)))

  branch_in : (r : ℕ) (used : List ℕ) (o : Opened) (c : ℕ) (key : List ℕ) → In key (branch w s n1 r used o c) → (cs : List ℕ) × (key ≡ used ++ c ∷ cs)
  branch_in r used o c key h =
      let g = in_go_on (next w s n1 used o c) (keys_from w s n1 r (used ++ c ∷ [])) key h in
      let k = in_goes r (used ++ c ∷ []) g.0 key g.2 in
      (k.0, k.2 ∙ append_assoc used (c ∷ []) k.0)

  pub keys_rise : (r : ℕ) (used : List ℕ) (o : Opened) → Rising (keys_from w s n1 r used o)
  unfolding keys_from
  keys_rise zero used o = go (is_all w s o)
    where
      go : (p : Bool) → Rising (cond p (used ∷ []) [])
      go true = (λ l m. absurd m, tt)
      go false = tt
  keys_rise (suc r) used o =
      rising_upto (branch w s n1 r used o) (λ c. each c (λ p. keys_rise r (used ++ c ∷ []) p) (next w s n1 used o c))
      (λ c d x y l i j.
      let p = branch_in r used o c x i in
      let q = branch_in r used o d y j in
      subst (λ (k : List ℕ). Before k y) (sym p.1) (subst (λ (k : List ℕ). Before (used ++ c ∷ p.0) k) (sym q.1) (before_front used c d p.0 q.0 l)))
      (2 ^ (w + s))
    where
      each : (c : ℕ) → ((p : Opened) → Rising (keys_from w s n1 r (used ++ c ∷ []) p)) → (q : Option Opened) → Rising (go_on q (keys_from w s n1 r (used ++ c ∷ [])))
      each c below None = tt
      each c below (Some p) = below p
