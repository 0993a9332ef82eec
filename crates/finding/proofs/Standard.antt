-- The columns that may stand one after another, with all open at the end, are the standard keys.
use Rattle.std.proofs.Common.{◌≡◌, ℕ, suc, ◌+◌, ◌-◌, ◌*◌, ◌/◌, ◌^◌, ◌<◌, ◌≤◌, true, List, [], ◌∷◌, ◌++◌, length, get_or, sym, refl, ap, ◌∙◌, subst, subst₂, mod-lt, mod-eq_of_lt, zero-add, add-one, arith, pow_pos, pow_mono, shl_lt, shr_lt}
use native.Mathlib.Decide.{dec_lt}
use Rattle.theory.specs.Words.{alias}
use Rattle.theory.specs.Keys.{Open, here, homes, Standard}
use Rattle.theory.specs.Plots.{SoundKey, StandardKey}
use Rattle.theory.proofs.Words.{◌⊕◌, up_div}
use Rattle.theory.proofs.Opens.{Fits, open_0}
use Rattle.theory.proofs.Count.{none_0}
use Rattle.theory.proofs.Pigeon.{exp_le}
use Rattle.theory.proofs.Sounds.{an_effect}
use Rattle.theory.proofs.Plots.{top_open, top_from, next_s, standard_to, standard_from, sound_to}
use Rattle.finding.specs.declared.begun.Opened.{Opened}
use Rattle.finding.specs.Walks.{is_in_layer, keys_from, none_open}
use Rattle.finding.specs.Listing.{In, Listed, ListingFact}
use Rattle.finding.proofs.Lists.{no_members}
use Rattle.finding.proofs.Members.{Goes, all_open, in_goes, goes_in, keys_rise}
use Rattle.finding.proofs.Columns.{Move, by_s, by_w, by_none, layer_whole, layer_sub, whole_layer, sub_layer}
use Rattle.finding.proofs.Facts.{Facts, move_of, goes_facts, goes_read, read_goes}
use Rattle.finding.proofs.Reach.{To, done, stays, opens, to_fits, inside, reach}

-- how many are open of each layer
abbrev counted : Opened → List ℕ
counted o = o.whole ∷ o.sub ∷ []

module _ (w s n1 : ℕ) where
  -- ---- a column opens one unit factor at most
  goes_enough : (cs used : List ℕ) (o : Opened) → Goes w s n1 used o cs (all_open w s) → w - o.whole + (s - o.sub) ≤ length cs
  goes_enough [] used o h = let p = h.0 in let q = h.1 in omega arith
  goes_enough (c ∷ cs) used o h = go h.1.0 (goes_enough cs (used ++ c ∷ []) h.1.0 h.1.2) (move_of w s n1 used o c cs (all_open w s) h)
    where
      go : (p : Opened) → w - p.whole + (s - p.sub) ≤ length cs → Move w s o c p → w - o.whole + (s - o.sub) ≤ suc (length cs)
      go p l (by_s k e q) = omega (arith, ap (λ (z : Opened). z.whole) q, ap (λ (z : Opened). z.sub) q)
      go p l (by_w k e i q) = omega (arith, ap (λ (z : Opened). z.whole) q, ap (λ (z : Opened). z.sub) q)
      go p l (by_none k i q) = omega (arith, ap (λ (z : Opened). z.whole) q, ap (λ (z : Opened). z.sub) q)

  pub too_few : (r : ℕ) (used : List ℕ) (o : Opened) → r < w - o.whole + (s - o.sub) → keys_from w s n1 r used o ≡ []
  too_few r used o l =
      no_members (keys_from w s n1 r used o)
      (λ key h. let k = in_goes w s n1 r used o key h in let e = k.1 in let m = goes_enough k.0 used o k.3 in omega arith)

  -- ---- all is open
  goes_to : (cs used : List ℕ) (o q : Opened) → o.sub ≤ s → Goes w s n1 used o cs q → To (w ∷ s ∷ []) (counted o) cs (counted q)
  goes_to [] used o q l h = subst₂ (λ (x y : ℕ). To (w ∷ s ∷ []) (counted o) [] (x ∷ y ∷ [])) h.0 h.1 done
  goes_to (c ∷ cs) used o q l h =
      go h.1.0 (λ k. goes_to cs (used ++ c ∷ []) h.1.0 q k h.1.2) (move_of w s n1 used o c cs q h)
    where
      from : {p : Opened} (a b : ℕ) → p.whole ≡ a → p.sub ≡ b → b ≤ s → (p.sub ≤ s → To (w ∷ s ∷ []) (counted p) cs (counted q)) → To (w ∷ s ∷ []) (a ∷ b ∷ []) cs (counted q)
      from a b e f k r = subst₂ (λ (x y : ℕ). To (w ∷ s ∷ []) (x ∷ y ∷ []) cs (counted q)) e f (r (omega arith))

      go : (p : Opened) → (p.sub ≤ s → To (w ∷ s ∷ []) (counted p) cs (counted q)) → Move w s o c p → To (w ∷ s ∷ []) (counted o) (c ∷ cs) (counted q)
      go p r (by_s k e x) =
          opens (next_s w s o.whole o.sub c k e) (from o.whole (suc o.sub) (ap (λ (z : Opened). z.whole) x) (ap (λ (z : Opened). z.sub) x ∙ add-one o.sub) (omega arith) r)
      go p r (by_w k e i x) =
          opens (here k e (top_open w s o.sub c l i)) (from (suc o.whole) o.sub (ap (λ (z : Opened). z.whole) x ∙ add-one o.whole) (ap (λ (z : Opened). z.sub) x) l r)
      go p r (by_none k i x) = stays (k, top_open w s o.sub c l i) (from o.whole o.sub (ap (λ (z : Opened). z.whole) x) (ap (λ (z : Opened). z.sub) x) l r)

  no_fits : Fits (w ∷ s ∷ []) (0 ∷ 0 ∷ [])
  no_fits = (omega arith, (omega arith, tt))

  word_open : (v : ℕ) → v < 2 ^ (w + s) → Open (w ∷ s ∷ []) (w ∷ s ∷ []) v
  word_open v h =
      let k : v / 2 ^ w < 2 ^ s = shr_lt s w (subst (λ (z : ℕ). v < 2 ^ z) (omega arith) h) in
      (mod-lt v (pow_pos w), top_open w s s v (omega arith) k)

  module _ (n2 : ℕ) where
    sound_facts : (cs : List ℕ) → SoundKey w s n1 n2 cs → Facts w s n1 [] cs
    sound_facts cs k = record {
      words = λ i l. k.words i (into i l);
      layer = λ i l. rw zero-add (at i l (dec_lt i n1));
      fresh = λ i l. refl;
      apart = λ i j l m. k.apart i j l (into j m);
    }
      where
        into : (i : ℕ) → i < length cs → i < n1 + n2
        into i l = omega (arith, k.size)

        at : (i : ℕ) → i < length cs → Dec (i < n1) → is_in_layer w n1 i (get_or cs i 0) ≡ true
        at i l (yes h) = whole_layer w n1 i (get_or cs i 0) h (k.whole i h).0 (k.whole i h).1
        at i l (no h) = sub_layer w n1 i (get_or cs i 0) (omega arith) (k.sub i (omega arith) (into i l))

    -- where every word is open, every unit factor is
    all_open_lem : (a b : ℕ) → ((v : ℕ) → v < 2 ^ (w + s) → Open (w ∷ s ∷ []) (a ∷ b ∷ []) v) → (w ≤ a) × (s ≤ b)
    all_open_lem a b any =
        let low : 2 ^ w - 1 < 2 ^ a = subst (λ (z : ℕ). z < 2 ^ a) (mod-eq_of_lt (top w)) (any (2 ^ w - 1) below_w).0 in
        let high : 2 ^ s - 1 < 2 ^ b = subst (λ (z : ℕ). z < 2 ^ b) (up_div w (2 ^ s - 1)) (top_from w s b ((2 ^ s - 1) * 2 ^ w) (any ((2 ^ s - 1) * 2 ^ w) below_s).1) in
        (exp_le w a (omega arith), exp_le s b (omega arith))
      where
        top : (k : ℕ) → 2 ^ k - 1 < 2 ^ k
        top k = omega (arith, pow_pos k)

        below_w : 2 ^ w - 1 < 2 ^ (w + s)
        below_w = let m : 2 ^ w ≤ 2 ^ (w + s) = pow_mono (omega arith) in omega (arith, pow_pos w)

        below_s : (2 ^ s - 1) * 2 ^ w < 2 ^ (w + s)
        below_s = subst (λ (z : ℕ). (2 ^ s - 1) * 2 ^ w < 2 ^ z) (omega arith) (shl_lt s w (top s))

    standard_goes : (cs : List ℕ) → StandardKey w s n1 n2 cs → Goes w s n1 [] none_open cs (all_open w s)
    standard_goes cs k =
        let r = read_goes w s n1 [] k.read (sound_facts cs k.sound) in
        let q : Opened = r.0 in
        let t = goes_to cs [] none_open q (omega arith) r.1 in
        let f = to_fits (w ∷ s ∷ []) t no_fits in
        let any : (v : ℕ) → v < 2 ^ (w + s) → Open (w ∷ s ∷ []) (counted q) v =
        λ v h.
        let e = an_effect (w ∷ s ∷ []) cs (sound_to w s n1 n2 cs k.sound).full v (subst (λ (z : ℕ). v < 2 ^ z) (omega arith) h) in
        subst (Open (w ∷ s ∷ []) (counted q)) e.2 (inside (w ∷ s ∷ []) t no_fits 0 e.0 (open_0 (w ∷ s ∷ []) (0 ∷ 0 ∷ []) no_fits)) in
        let l = all_open_lem q.whole q.sub any in
        let e : q.whole ≡ w = omega (arith, f.0, l.0) in
        let e' : q.sub ≡ s = omega (arith, f.1.0, l.1) in
        subst₂ (λ (x y : ℕ). Goes w s n1 [] none_open cs (record { whole = x; sub = y })) e e' r.1

    goes_standard : (cs : List ℕ) → length cs ≡ n1 + n2 → Goes w s n1 [] none_open cs (all_open w s) → StandardKey w s n1 n2 cs
    goes_standard cs size g =
        let f = goes_facts w s n1 cs [] none_open (all_open w s) g in
        let t = goes_to cs [] none_open (all_open w s) (omega arith) g in
        record {
          sound = record {
            size = size;
            words = λ i l. f.words i (omega arith);
            whole = λ i l. layer_whole w n1 i (get_or cs i 0) l (rw zero-add at (f.layer i (omega arith)));
            sub = λ i m l. layer_sub w n1 i (get_or cs i 0) m (rw zero-add at (f.layer i (omega arith)));
            apart = λ i j l m. f.apart i j l (omega arith);
            full = λ v h.
                let r = reach (w ∷ s ∷ []) t v (word_open v h) in
                ∣ (r.2.0, subst (λ (z : ℕ). r.2.0 < 2 ^ z) size r.2.1, sym (r.2.2 ∙ ap (λ (z : ℕ). z ⊕ alias cs r.2.0) (none_0 (w ∷ s ∷ []) r.0 r.1))) ∣₁;
          };
          read = goes_read w s n1 cs [] none_open (all_open w s) g;
        }

    pub keys_listed : Listed (Standard (w ∷ s ∷ []) (homes (n1 ∷ n2 ∷ []))) (keys_from w s n1 (n1 + n2) [] none_open)
    keys_listed = record {
      members = λ cs. (
        λ h. let r = in_goes w s n1 (n1 + n2) [] none_open cs h in standard_to w s n1 n2 cs (subst (StandardKey w s n1 n2) (sym r.2) (goes_standard r.0 r.1 r.3)),
        λ k.
            let key = standard_from w s n1 n2 cs k in
            subst (λ (r : ℕ). In cs (keys_from w s n1 r [] none_open)) key.sound.size (goes_in w s n1 cs [] none_open (standard_goes cs key)),
      );
      rising = keys_rise w s n1 (n1 + n2) [] none_open;
    }

pub listing_fact : ListingFact
listing_fact shape = keys_listed shape.w shape.s shape.n1 shape.n2
