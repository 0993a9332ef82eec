-- Columns that may stand one after another are words of their layers, each new; and the way back.
use Rattle.std.proofs.Common.{◌≡◌, ℕ, zero, suc, ◌+◌, ◌^◌, ◌<◌, true, false, eqb, ◌≢◌, List, [], ◌∷◌, ◌++◌, length, get_or, sym, refl, ◌∙◌, subst, add-zero, add-one, arith}
use Rattle.std.proofs.lemmas.Bool.{or_parts, ne_eqb, eqb-false}
use Rattle.std.proofs.lemmas.List.{length_push}
use Rattle.theory.specs.Plots.{Read, end, opens_s, opens_w, opens_none}
use Rattle.finding.specs.declared.begun.Opened.{Opened}
use Rattle.finding.specs.Walks.{held, is_in_layer, after}
use Rattle.finding.proofs.Steps.{held_more}
use Rattle.finding.proofs.Members.{Goes}
use Rattle.finding.proofs.Columns.{tests, Move, by_s, by_w, by_none, after_move, move_after}

-- the columns cs, behind those used: each is a word of its layer and not held before
pub record Facts (w s n1 : ℕ) (used cs : List ℕ) : Type 0 where
  pub words : (i : ℕ) → i < length cs → get_or cs i 0 < 2 ^ (w + s)
  pub layer : (i : ℕ) → i < length cs → is_in_layer w n1 (length used + i) (get_or cs i 0) ≡ true
  pub fresh : (i : ℕ) → i < length cs → held (get_or cs i 0) used ≡ false
  pub apart : (i j : ℕ) → i < j → j < length cs → get_or cs i 0 ≢ get_or cs j 0

module _ (w s n1 : ℕ) where
  push_at : (used : List ℕ) (c i : ℕ) → length (used ++ c ∷ []) + i ≡ length used + suc i
  push_at used c i = omega (arith, length_push used c)

  tail_facts : (used : List ℕ) (c : ℕ) (cs : List ℕ) → Facts w s n1 used (c ∷ cs) → Facts w s n1 (used ++ c ∷ []) cs
  tail_facts used c cs f = record {
    words = λ i l. f.words (suc i) (omega arith);
    layer = λ i l. subst (λ (k : ℕ). is_in_layer w n1 k (get_or cs i 0) ≡ true) (sym (push_at used c i)) (f.layer (suc i) (omega arith));
    fresh = λ i l. rw (held_more (get_or cs i 0) c used, f.fresh (suc i) (omega arith)) (ne_eqb c (get_or cs i 0) (f.apart 0 (suc i) (omega arith) (omega arith)));
    apart = λ i j l m. f.apart (suc i) (suc j) (omega arith) (omega arith);
  }

  head_facts : (c : ℕ) (cs used : List ℕ) → c < 2 ^ (w + s) → is_in_layer w n1 (length used) c ≡ true → held c used ≡ false → Facts w s n1 (used ++ c ∷ []) cs → Facts w s n1 used (c ∷ cs)
  head_facts c cs used hw hs hh f = record { words = words; layer = layer; fresh = fresh; apart = apart }
    where
      words : (i : ℕ) → i < suc (length cs) → get_or (c ∷ cs) i 0 < 2 ^ (w + s)
      words zero l = hw
      words (suc i) l = f.words i (omega arith)

      layer : (i : ℕ) → i < suc (length cs) → is_in_layer w n1 (length used + i) (get_or (c ∷ cs) i 0) ≡ true
      layer zero l = rw add-zero hs
      layer (suc i) l = subst (λ (k : ℕ). is_in_layer w n1 k (get_or cs i 0) ≡ true) (push_at used c i) (f.layer i (omega arith))

      new : (i : ℕ) → i < length cs → (held (get_or cs i 0) used ≡ false) × (eqb c (get_or cs i 0) ≡ false)
      new i l = or_parts (held (get_or cs i 0) used) (eqb c (get_or cs i 0)) (sym (held_more (get_or cs i 0) c used) ∙ f.fresh i l)

      fresh : (i : ℕ) → i < suc (length cs) → held (get_or (c ∷ cs) i 0) used ≡ false
      fresh zero l = hh
      fresh (suc i) l = (new i (omega arith)).0

      apart : (i j : ℕ) → i < j → j < suc (length cs) → get_or (c ∷ cs) i 0 ≢ get_or (c ∷ cs) j 0
      apart i zero l m e = omega arith
      apart zero (suc j) l m e = eqb-false c (get_or cs j 0) (new j (omega arith)).1 e
      apart (suc i) (suc j) l m e = f.apart i j (omega arith) (omega arith) e

  -- the move that a column makes
  pub move_of : (used : List ℕ) (o : Opened) (c : ℕ) (cs : List ℕ) (q : Opened) (h : Goes w s n1 used o (c ∷ cs) q) → Move w s o c h.1.0
  move_of used o c cs q h = after_move w s o c h.1.0 (tests (is_in_layer w n1 (length used) c) (held c used) (after w s o c) h.1.0 h.1.1).2

  pub goes_facts : (cs used : List ℕ) (o q : Opened) → Goes w s n1 used o cs q → Facts w s n1 used cs
  goes_facts [] used o q h = record {
    words = λ i l. absurd (omega arith);
    layer = λ i l. absurd (omega arith);
    fresh = λ i l. absurd (omega arith);
    apart = λ i j l m. absurd (omega arith);
  }
  goes_facts (c ∷ cs) used o q h =
      let p = h.1.0 in
      let k = tests (is_in_layer w n1 (length used) c) (held c used) (after w s o c) p h.1.1 in
      head_facts c cs used h.0 k.0 k.1 (goes_facts cs (used ++ c ∷ []) p q h.1.2)

  -- ---- reading
  pub goes_read : (cs used : List ℕ) (o q : Opened) → Goes w s n1 used o cs q → Read w s o.whole o.sub cs
  goes_read [] used o q h = end
  goes_read (c ∷ cs) used o q h = go h.1.0 (goes_read cs (used ++ c ∷ []) h.1.0 q h.1.2) (move_of used o c cs q h)
    where
      seen : {p : Opened} {x : Opened} → p ≡ x → Read w s p.whole p.sub cs → Read w s x.whole x.sub cs
      seen e r = subst (λ (z : Opened). Read w s z.whole z.sub cs) e r

      go : (p : Opened) → Read w s p.whole p.sub cs → Move w s o c p → Read w s o.whole o.sub (c ∷ cs)
      go p r (by_s l e x) = opens_s l e (rw add-one at (seen x r))
      go p r (by_w l e k x) = opens_w l e k (rw add-one at (seen x r))
      go p r (by_none l k x) = opens_none l k (seen x r)

  step : (used : List ℕ) (o : Opened) (c : ℕ) (cs : List ℕ) (p q : Opened) → Facts w s n1 used (c ∷ cs) → Move w s o c p
      → Goes w s n1 (used ++ c ∷ []) p cs q → Goes w s n1 used o (c ∷ cs) q
  step used o c cs p q f m g = (
    f.words 0 (omega arith),
    (p, rw (rw add-zero at (f.layer 0 (omega arith)), f.fresh 0 (omega arith)) (move_after w s o c p m), g),
  )

  pub read_goes : {cs : List ℕ} {a b : ℕ} (used : List ℕ) → Read w s a b cs → Facts w s n1 used cs → (q : Opened) × Goes w s n1 used (record { whole = a; sub = b }) cs q
  read_goes {a = a} {b = b} used end f = (record { whole = a; sub = b }, (refl, refl))
  read_goes used (opens_s {a} {b} {c} {cs} l e r) f =
      let k = read_goes (used ++ c ∷ []) r (tail_facts used c cs f) in
      (k.0, step used (record { whole = a; sub = b }) c cs (record { whole = a; sub = suc b }) k.0 f (by_s l e (rw add-one)) k.1)
  read_goes used (opens_w {a} {b} {c} {cs} l e h r) f =
      let k = read_goes (used ++ c ∷ []) r (tail_facts used c cs f) in
      (k.0, step used (record { whole = a; sub = b }) c cs (record { whole = suc a; sub = b }) k.0 f (by_w l e h (rw add-one)) k.1)
  read_goes used (opens_none {a} {b} {c} {cs} l h r) f =
      let k = read_goes (used ++ c ∷ []) r (tail_facts used c cs f) in
      (k.0, step used (record { whole = a; sub = b }) c cs (record { whole = a; sub = b }) k.0 f (by_none l h refl) k.1)
