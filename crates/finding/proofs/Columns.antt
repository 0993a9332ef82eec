-- What the tests of one column say.
use Rattle.std.proofs.Common.{◌≡◌, ℕ, ◌+◌, ◌/◌, ◌%◌, ◌^◌, ◌<◌, ◌≤◌, Bool, true, false, not, ◌&&◌, cond, eqb, ltb, ◌≢◌, List, length, Some, None, Option, sym, refl, ap, ◌∙◌, subst, arith, ltb-true, le-ltb, lt-ltb, eq-eqb, eqb-true, le-leb, leb-true}
use Rattle.std.proofs.lemmas.Bool.{ne_eqb, eqb-false, and_parts, not-true}
use Rattle.std.proofs.lemmas.Option.{none-some, same_Some}
use Rattle.theory.proofs.Plots.{s_high}
use Rattle.finding.specs.declared.begun.Opened.{Opened}
use Rattle.finding.specs.Walks.{Within, held, is_in_layer, after, next}

-- the two tests of a column
pub tests : (x y : Bool) (o : Option Opened) (p : Opened) → cond (x && not y) o None ≡ Some p → (x ≡ true) × (y ≡ false) × (o ≡ Some p)
tests true true o p e = absurd (none-some p e)
tests true false o p e = (refl, refl, e)
tests false y o p e = absurd (none-some p e)

-- what a standard column opens
pub data Move (w s : ℕ) (o : Opened) (c : ℕ) (p : Opened) : Type 0 where
  by_s : o.sub < s → c ≡ 2 ^ (w + o.sub) → p ≡ record { whole = o.whole; sub = o.sub + 1 } → Move w s o c p
  by_w : o.whole < w → c % 2 ^ w ≡ 2 ^ o.whole → c / 2 ^ w < 2 ^ o.sub → p ≡ record { whole = o.whole + 1; sub = o.sub } → Move w s o c p
  by_none : c % 2 ^ w < 2 ^ o.whole → c / 2 ^ w < 2 ^ o.sub → p ≡ o → Move w s o c p

module _ (w s : ℕ) (o : Opened) (c : ℕ) (p : Opened) where
  abbrev opens_whole : Bool
  opens_whole = ltb o.whole w && eqb (c % 2 ^ w) (2 ^ o.whole)

  abbrev opens_sub : Bool
  opens_sub = ltb o.sub s && eqb c (2 ^ (w + o.sub))

  pub after_move : after w s o c ≡ Some p → Move w s o c p
  after_move e = go (ltb (c / 2 ^ w) (2 ^ o.sub)) refl (ltb (c % 2 ^ w) (2 ^ o.whole)) refl opens_whole refl opens_sub refl e
    where
      go : (t : Bool) → ltb (c / 2 ^ w) (2 ^ o.sub) ≡ t → (u : Bool) → ltb (c % 2 ^ w) (2 ^ o.whole) ≡ u → (x : Bool) → opens_whole ≡ x → (y : Bool) → opens_sub ≡ y
          → cond t (cond u (Some o) (cond x (Some (record { whole = o.whole + 1; sub = o.sub })) None)) (cond y (Some (record { whole = o.whole; sub = o.sub + 1 })) None) ≡ Some p → Move w s o c p
      go true t true u x x' y y' e = by_none (ltb-true (c % 2 ^ w) (2 ^ o.whole) u) (ltb-true (c / 2 ^ w) (2 ^ o.sub) t) (sym (same_Some o p e))
      go true t false u true x y y' e =
          let both = and_parts (ltb o.whole w) (eqb (c % 2 ^ w) (2 ^ o.whole)) x in
          by_w (ltb-true o.whole w both.0) (eqb-true (c % 2 ^ w) (2 ^ o.whole) both.1) (ltb-true (c / 2 ^ w) (2 ^ o.sub) t) (sym (same_Some (record { whole = o.whole + 1; sub = o.sub }) p e))
      go true t false u false x y y' e = absurd (none-some p e)
      go false t u u' x x' true y e =
          let both = and_parts (ltb o.sub s) (eqb c (2 ^ (w + o.sub))) y in
          by_s (ltb-true o.sub s both.0) (eqb-true c (2 ^ (w + o.sub)) both.1) (sym (same_Some (record { whole = o.whole; sub = o.sub + 1 }) p e))
      go false t u u' x x' false y e = absurd (none-some p e)

  pub move_after : Move w s o c p → after w s o c ≡ Some p
  move_after (by_s l e q) =
      let high : c / 2 ^ w ≡ 2 ^ o.sub = ap (λ (z : ℕ). z / 2 ^ w) e ∙ s_high w s o.sub in
      rw (le-ltb (c / 2 ^ w) (2 ^ o.sub) (omega arith), lt-ltb o.sub s l, eq-eqb c (2 ^ (w + o.sub)) e, q)
  move_after (by_w l e h q) =
      rw (lt-ltb (c / 2 ^ w) (2 ^ o.sub) h, le-ltb (c % 2 ^ w) (2 ^ o.whole) (omega arith), lt-ltb o.whole w l, eq-eqb (c % 2 ^ w) (2 ^ o.whole) e, q)
  move_after (by_none l h q) = rw (lt-ltb (c / 2 ^ w) (2 ^ o.sub) h, lt-ltb (c % 2 ^ w) (2 ^ o.whole) l, q)

-- ---- the layer of a factor
module _ (w n1 i c : ℕ) where
  pub layer_whole : i < n1 → is_in_layer w n1 i c ≡ true → (c ≢ 0) × (c < 2 ^ w)
  layer_whole l h =
      let both = and_parts (not (eqb c 0)) (ltb c (2 ^ w)) (rw (lt-ltb i n1 l) at h) in
      (eqb-false c 0 (not-true (eqb c 0) both.0), ltb-true c (2 ^ w) both.1)

  pub layer_sub : n1 ≤ i → is_in_layer w n1 i c ≡ true → 2 ^ w ≤ c
  layer_sub l h = leb-true (2 ^ w) c (rw (le-ltb i n1 l) at h)

  pub whole_layer : i < n1 → c ≢ 0 → c < 2 ^ w → is_in_layer w n1 i c ≡ true
  whole_layer l n h = rw (lt-ltb i n1 l, ne_eqb c 0 n) (lt-ltb c (2 ^ w) h)

  pub sub_layer : n1 ≤ i → 2 ^ w ≤ c → is_in_layer w n1 i c ≡ true
  sub_layer l h = rw (le-ltb i n1 l) (le-leb (2 ^ w) c h)

-- no more are open than there are
pub next_within : (w s n1 : ℕ) (used : List ℕ) (o : Opened) (c : ℕ) (p : Opened) → Within w s o → next w s n1 used o c ≡ Some p → Within w s p
next_within w s n1 used o c p h e = go (after_move w s o c p (tests (is_in_layer w n1 (length used) c) (held c used) (after w s o c) p e).2)
  where
    go : Move w s o c p → Within w s p
    go (by_s l k q) = subst (Within w s) (sym q) (h.0, omega arith)
    go (by_w l k i q) = subst (Within w s) (sym q) (omega arith, h.1)
    go (by_none l k q) = subst (Within w s) (sym q) h
