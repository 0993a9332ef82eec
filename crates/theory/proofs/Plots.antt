-- Two layers are the lists `w ∷ s ∷ []`.
use Rattle.std.proofs.Common.{◌≡◌, ℕ, zero, suc, ◌+◌, ◌*◌, ◌/◌, ◌%◌, ◌^◌, ◌<◌, ◌≤◌, false, eqb, ◌≢◌, List, [], ◌∷◌, length, get_or, sym, refl, ap, ◌∙◌, subst, lt_of_lt_of_le, mod-eq_of_lt, mul_comm, arith, pow_pos, pow_mono, pow-add}
use mathlib.Core.Logic.{∥∥₁_map}
use native.Mathlib.Nat.{div-eq_of_lt}
use native.Mathlib.Decide.{dec_lt, ℕ_discrete}
use lib.Dec.{eqb-suc-zero}
use lib.Pow.{pow-lt}
use Rattle.theory.specs.Words.{stratum, total}
use Rattle.theory.specs.Keys.{Open, Next, here, above, Reads, done, stays, opens, Sound, Standard, homes}
use Rattle.theory.specs.Plots.{SoundKey, Read, end, opens_s, opens_w, opens_none, StandardKey, TwoLayers}
use Rattle.theory.proofs.Homes.{length_homes, home_whole, home_sub}
use Rattle.theory.proofs.Words.{below, up_mod, up_div, parts}

-- ---- strata
stratum_0 : (w s v : ℕ) → v ≡ 0 → stratum (w ∷ s ∷ []) v ≡ 0
stratum_0 w s v e = ap (stratum (w ∷ s ∷ [])) e

pub stratum_1 : (w s v : ℕ) → v ≢ 0 → v < 2 ^ w → stratum (w ∷ s ∷ []) v ≡ 1
stratum_1 w s zero n h = absurd (n refl)
stratum_1 w s (suc v) n h = rw (eqb-suc-zero v, div-eq_of_lt h)

high_pos : (w v : ℕ) → 2 ^ w ≤ v → 0 < v / 2 ^ w
high_pos w v h = go (ℕ_discrete (v / 2 ^ w) 0)
  where
    go : Dec (v / 2 ^ w ≡ 0) → 0 < v / 2 ^ w
    go (yes e) = absurd (omega (arith, below w v e))
    go (no n) = omega arith

pos_not_0 : (q : ℕ) → 0 < q → eqb q 0 ≡ false
pos_not_0 zero h = absurd (omega arith)
pos_not_0 (suc q) h = eqb-suc-zero q

pub stratum_2 : (w s v : ℕ) → 2 ^ w ≤ v → stratum (w ∷ s ∷ []) v ≡ 2
stratum_2 w s zero h = absurd (omega (arith, pow_pos w))
stratum_2 w s (suc v) h = rw (eqb-suc-zero v, pos_not_0 (suc v / 2 ^ w) (high_pos w (suc v) h))

data Strata (w v : ℕ) : Type 0 where
  mean : v ≡ 0 → Strata w v
  plot : v ≢ 0 → v < 2 ^ w → Strata w v
  split_plot : 2 ^ w ≤ v → Strata w v

strata : (w v : ℕ) → Strata w v
strata w v = go (ℕ_discrete v 0) (dec_lt v (2 ^ w))
  where
    go : Dec (v ≡ 0) → Dec (v < 2 ^ w) → Strata w v
    go (yes e) d = mean e
    go (no n) (yes l) = plot n l
    go (no n) (no l) = split_plot (omega arith)

pub stratum_is_1 : (w s v : ℕ) → stratum (w ∷ s ∷ []) v ≡ 1 → (v ≢ 0) × (v < 2 ^ w)
stratum_is_1 w s v e = go (strata w v)
  where
    go : Strata w v → (v ≢ 0) × (v < 2 ^ w)
    go (mean z) = absurd (omega (arith, stratum_0 w s v z))
    go (plot n l) = (n, l)
    go (split_plot l) = absurd (omega (arith, stratum_2 w s v l))

pub stratum_is_2 : (w s v : ℕ) → stratum (w ∷ s ∷ []) v ≡ 2 → 2 ^ w ≤ v
stratum_is_2 w s v e = go (strata w v)
  where
    go : Strata w v → 2 ^ w ≤ v
    go (mean z) = absurd (omega (arith, stratum_0 w s v z))
    go (plot n l) = absurd (omega (arith, stratum_1 w s v n l))
    go (split_plot l) = l

module _ (w s : ℕ) where
  abbrev pub lay : List ℕ
  lay = w ∷ s ∷ []

  pub total_is : total lay ≡ w + s
  total_is = omega arith

  -- ---- reading
  pub top_open : (b c : ℕ) → b ≤ s → c / 2 ^ w < 2 ^ b → Open (s ∷ []) (b ∷ []) (c / 2 ^ w)
  top_open b c h q = let l : c / 2 ^ w < 2 ^ s = lt_of_lt_of_le q (pow_mono h) in (rw (mod-eq_of_lt l) q, div-eq_of_lt l)

  pub top_from : (b c : ℕ) → Open (s ∷ []) (b ∷ []) (c / 2 ^ w) → c / 2 ^ w < 2 ^ b
  top_from b c o = subst (λ (z : ℕ). z < 2 ^ b) (mod-eq_of_lt (below s (c / 2 ^ w) o.1)) o.0

  pub pow_is : (b : ℕ) → 2 ^ (w + b) ≡ 2 ^ b * 2 ^ w
  pow_is b = pow-add 2 w b ∙ mul_comm (2 ^ w) (2 ^ b)

  pub s_low : (b : ℕ) → 2 ^ (w + b) % 2 ^ w ≡ 0
  s_low b = ap (λ (z : ℕ). z % 2 ^ w) (pow_is b) ∙ up_mod w (2 ^ b)

  pub s_high : (b : ℕ) → 2 ^ (w + b) / 2 ^ w ≡ 2 ^ b
  s_high b = ap (λ (z : ℕ). z / 2 ^ w) (pow_is b) ∙ up_div w (2 ^ b)

  pub next_s : (a b c : ℕ) → b < s → c ≡ 2 ^ (w + b) → Next lay (a ∷ b ∷ []) c (a ∷ suc b ∷ [])
  next_s a b c l e =
      let q : c / 2 ^ w ≡ 2 ^ b = ap (λ (z : ℕ). z / 2 ^ w) e ∙ s_high b in
      above (ap (λ (z : ℕ). z % 2 ^ w) e ∙ s_low b)
      (here l (ap (λ (z : ℕ). z % 2 ^ s) q ∙ mod-eq_of_lt (pow-lt l)) (ap (λ (z : ℕ). z / 2 ^ s) q ∙ div-eq_of_lt (pow-lt l)))

  pub next_s_is : (b c : ℕ) → c % 2 ^ w ≡ 0 → c / 2 ^ w % 2 ^ s ≡ 2 ^ b → c / 2 ^ w / 2 ^ s ≡ 0 → c ≡ 2 ^ (w + b)
  next_s_is b c lo hi top =
      parts w c (2 ^ (w + b)) (lo ∙ sym (s_low b)) (sym (mod-eq_of_lt (below s (c / 2 ^ w) top)) ∙ hi ∙ sym (s_high b))

  pub read_to : {a b : ℕ} {cs : List ℕ} → Read w s a b cs → b ≤ s → Reads lay (a ∷ b ∷ []) cs
  read_to end h = done
  read_to (opens_s {a} {b} {c} l e r) h = opens (next_s a b c l e) (read_to r l)
  read_to (opens_w {a} {b} {c} l e q r) h = opens (here l e (top_open b c h q)) (read_to r h)
  read_to (opens_none {a} {b} {c} p q r) h = stays (p, top_open b c h q) (read_to r h)

  pub read_from : {a b : ℕ} {cs : List ℕ} → Reads lay (a ∷ b ∷ []) cs → Read w s a b cs
  read_from done = end
  read_from {a} {b} (stays {c = c} o r) = opens_none o.0 (top_from b c o.1) (read_from r)
  read_from {a} {b} (opens {c = c} (here l e o) r) = opens_w l e (top_from b c o) (read_from r)
  read_from {a} {b} (opens {c = c} (above e (here l e' o)) r) = opens_s l (next_s_is b c e e' o) (read_from r)
  read_from (opens (above e (above e' n)) r) = elim n [ ]

  -- ---- the layer of each factor
  module _ (n1 n2 : ℕ) where
    abbrev pub fac : List ℕ
    fac = homes (n1 ∷ n2 ∷ [])

    pub sound_to : (cs : List ℕ) → SoundKey w s n1 n2 cs → Sound lay fac cs
    sound_to cs k =
        record {
          size = k.size ∙ sym (length_homes n1 n2);
          words = λ i h. subst (λ (z : ℕ). get_or cs i 0 < 2 ^ z) (sym total_is) (k.words i (inn i h));
          own = λ i h. own i (inn i h) (dec_lt i n1);
          apart = λ i j h l. k.apart i j h (inn j l);
          full = λ v h. ∥∥₁_map (k.full v (subst (λ (z : ℕ). v < 2 ^ z) total_is h)) (λ r. (r.0, subst (λ (z : ℕ). r.0 < 2 ^ z) (sym k.size) r.1, r.2));
        }
      where
        inn : (i : ℕ) → i < length cs → i < n1 + n2
        inn i h = subst (λ (z : ℕ). i < z) k.size h

        own : (i : ℕ) → i < n1 + n2 → Dec (i < n1) → stratum lay (get_or cs i 0) ≡ get_or fac i 0
        own i h (yes l) = stratum_1 w s (get_or cs i 0) (k.whole i l).0 (k.whole i l).1 ∙ sym (home_whole n1 n2 i l)
        own i h (no l) = stratum_2 w s (get_or cs i 0) (k.sub i (omega arith) h) ∙ sym (home_sub n1 n2 i (omega arith) h)

    pub sound_from : (cs : List ℕ) → Sound lay fac cs → SoundKey w s n1 n2 cs
    sound_from cs k =
        record {
          size = size;
          words = λ i h. subst (λ (z : ℕ). get_or cs i 0 < 2 ^ z) total_is (k.words i (inn i h));
          whole = λ i h. stratum_is_1 w s (get_or cs i 0) (k.own i (inn i (omega arith)) ∙ home_whole n1 n2 i h);
          sub = λ i l h. stratum_is_2 w s (get_or cs i 0) (k.own i (inn i h) ∙ home_sub n1 n2 i l h);
          apart = λ i j h l. k.apart i j h (inn j l);
          full = λ v h. ∥∥₁_map (k.full v (subst (λ (z : ℕ). v < 2 ^ z) (sym total_is) h)) (λ r. (r.0, subst (λ (z : ℕ). r.0 < 2 ^ z) size r.1, r.2));
        }
      where
        size : length cs ≡ n1 + n2
        size = k.size ∙ length_homes n1 n2

        inn : (i : ℕ) → i < n1 + n2 → i < length cs
        inn i h = subst (λ (z : ℕ). i < z) (sym size) h

    pub standard_to : (cs : List ℕ) → StandardKey w s n1 n2 cs → Standard lay fac cs
    standard_to cs k = record { sound = sound_to cs k.sound; reads = read_to k.read (omega arith) }

    pub standard_from : (cs : List ℕ) → Standard lay fac cs → StandardKey w s n1 n2 cs
    standard_from cs k = record { sound = sound_from cs k.sound; read = read_from k.reads }

pub two_layers_lem : TwoLayers
two_layers_lem w s n1 n2 cs = (
  (sound_from w s n1 n2 cs, sound_to w s n1 n2 cs),
  (standard_from w s n1 n2 cs, standard_to w s n1 n2 cs),
)
