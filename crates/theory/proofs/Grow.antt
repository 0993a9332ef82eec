-- The standard columns, one by one.
use Rattle.std.proofs.Common.{◌≡◌, ℕ, zero, suc, ◌*◌, ◌/◌, ◌%◌, ◌^◌, ◌<◌, ◌⊎◌, List, [], ◌∷◌, length, get_or, sym, refl, ap, ◌∙◌, subst, ap₂, subst₂, inl, inr, mod-lt, zero-lt-suc, one-mul, zero-mul, arith, pow_pos}
use native.Mathlib.Nat.{div-eq_of_lt, div_self}
use lib.Bits.{bit_xor, xor_self, xor_assoc, xor_zero_r, xor_lt, xor_shr, xor_mod}
use Rattle.theory.specs.Words.{total, alias}
use Rattle.theory.specs.Keys.{Open, Next, here, above, Reads, done, stays, opens}
use Rattle.theory.proofs.Words.{◌⊕◌, cancel, cancel_r, swap4}
use Rattle.theory.proofs.Opens.{Same, Fits, open_0, open_xor, next_open, next_in_lem, next_fits, widen}
use Rattle.theory.proofs.Step.{Good, Meets, Old, New, step}

-- ---- a digit times a word
pub times_xor : (b c d : ℕ) → b < 2 → c < 2 → (b ⊕ c) * d ≡ b * d ⊕ c * d
times_xor zero c d hb hc = rw zero-mul
times_xor (suc zero) zero d hb hc = simp (zero-mul, xor_zero_r)
times_xor (suc zero) (suc zero) d hb hc = zero-mul d ∙ sym (xor_self (1 * d))
times_xor (suc zero) (suc (suc c)) d hb hc = absurd (omega arith)
times_xor (suc (suc b)) c d hb hc = absurd (omega arith)

pub times_lt : (k b d : ℕ) → b < 2 → d < 2 ^ k → b * d < 2 ^ k
times_lt k zero d hb hd = rw zero-mul (pow_pos k)
times_lt k (suc zero) d hb hd = rw one-mul hd
times_lt k (suc (suc b)) d hb hd = absurd (omega arith)

pub times_open : (ws os : List ℕ) → Fits ws os → (b d : ℕ) → b < 2 → Open ws os d → Open ws os (b * d)
times_open ws os f zero d hb o = rw zero-mul (open_0 ws os f)
times_open ws os f (suc zero) d hb o = rw one-mul o
times_open ws os f (suc (suc b)) d hb o = absurd (omega arith)

lin_0 : (φ : ℕ → ℕ) → ((x y : ℕ) → φ (x ⊕ y) ≡ φ x ⊕ φ y) → φ 0 ≡ 0
lin_0 φ lin = lin 0 0 ∙ xor_self (φ 0)

lin_times : (φ : ℕ → ℕ) → ((x y : ℕ) → φ (x ⊕ y) ≡ φ x ⊕ φ y) → (b d : ℕ) → b < 2 → φ (b * d) ≡ b * φ d
lin_times φ lin zero d hb = ap φ (zero-mul d) ∙ lin_0 φ lin ∙ sym (zero-mul (φ d))
lin_times φ lin (suc zero) d hb = ap φ (one-mul d) ∙ sym (one-mul (φ d))
lin_times φ lin (suc (suc b)) d hb = absurd (omega arith)

-- ---- the digit of the unit factor that a column opens
pub record Mark (ws os : List ℕ) (d : ℕ) : Type 0 where
  pub at : ℕ → ℕ
  pub lin : (x y : ℕ) → at (x ⊕ y) ≡ at x ⊕ at y
  pub bit : (x : ℕ) → at x < 2
  pub off : (x : ℕ) → Open ws os x → at x ≡ 0
  pub on : at d ≡ 1

mark : {ws os ps : List ℕ} {d : ℕ} → Next ws os d ps → Mark ws os d
mark (here {w} {a} l e o) =
    record {
      at = λ x. x % 2 ^ w / 2 ^ a % 2;
      lin = λ x y. ap (λ (z : ℕ). z / 2 ^ a % 2) (xor_mod x y w) ∙ ap (λ (z : ℕ). z % 2) (xor_shr (x % 2 ^ w) (y % 2 ^ w) a) ∙ xor_mod (x % 2 ^ w / 2 ^ a) (y % 2 ^ w / 2 ^ a) 1;
      bit = λ x. mod-lt (x % 2 ^ w / 2 ^ a) (zero-lt-suc 1);
      off = λ x h. ap (λ (z : ℕ). z % 2) (div-eq_of_lt h.0);
      on = ap (λ (z : ℕ). z / 2 ^ a % 2) e ∙ ap (λ (z : ℕ). z % 2) (div_self (pow_pos a));
    }
mark (above {w} e n) =
    let m = mark n in
    record {
      at = λ x. m.at (x / 2 ^ w);
      lin = λ x y. ap m.at (xor_shr x y w) ∙ m.lin (x / 2 ^ w) (y / 2 ^ w);
      bit = λ x. m.bit (x / 2 ^ w);
      off = λ x h. m.off (x / 2 ^ w) h.1;
      on = m.on;
    }

-- ---- one column more
pub record Advance (ws os : List ℕ) (φ : ℕ → ℕ) (c : ℕ) : Type 0 where
  pub col : ℕ
  pub ps : List ℕ
  pub ψ : ℕ → ℕ
  pub good : Good ws ps ψ
  pub fits : Fits ws ps
  pub now : Open ws ps col
  pub wide : (x : ℕ) → Open ws os x → Open ws ps x
  pub same : (x : ℕ) → Open ws os x → ψ x ≡ φ x
  pub took : ψ col ≡ c
  pub read : (ds : List ℕ) → Reads ws ps ds → Reads ws os (col ∷ ds)

module _ (ws os : List ℕ) (f : Fits ws os) (φ : ℕ → ℕ) (g : Good ws os φ) (c : ℕ) (hc : c < 2 ^ total ws) where
  old : Old ws os φ c → Advance ws os φ c
  old (d, o, e) = record { col = d; ps = os; ψ = φ; good = g; fits = f; now = o; wide = λ x k. k; same = λ x k. refl; took = e; read = λ ds r. stays o r }

  -- the new unit factor stands for u, so that the new word d stands for c
  module _ (d : ℕ) (ps : List ℕ) (n : Next ws os d ps) (k : Meets ws os φ c d) where
    m : Mark ws os d
    m = mark n

    abbrev ψ : ℕ → ℕ
    ψ x = φ x ⊕ m.at x * (φ d ⊕ c)

    ψ_lin : (x y : ℕ) → ψ (x ⊕ y) ≡ ψ x ⊕ ψ y
    ψ_lin x y =
        ap₂ bit_xor (g.lin x y) (ap (λ (z : ℕ). z * (φ d ⊕ c)) (m.lin x y) ∙ times_xor (m.at x) (m.at y) (φ d ⊕ c) (m.bit x) (m.bit y))
        ∙ swap4 (φ x) (φ y) (m.at x * (φ d ⊕ c)) (m.at y * (φ d ⊕ c))

    ψ_fit : (x : ℕ) → ψ x < 2 ^ total ws
    ψ_fit x =
        xor_lt (total ws) (φ x) (m.at x * (φ d ⊕ c)) (g.fit x)
        (times_lt (total ws) (m.at x) (φ d ⊕ c) (m.bit x) (xor_lt (total ws) (φ d) c (g.fit d) hc))

    ψ_same : (x : ℕ) → Open ws os x → ψ x ≡ φ x
    ψ_same x o = ap (λ (z : ℕ). φ x ⊕ z * (φ d ⊕ c)) (m.off x o) ∙ ap (λ (z : ℕ). φ x ⊕ z) (zero-mul (φ d ⊕ c)) ∙ xor_zero_r (φ x)

    ψ_took : ψ d ≡ c
    ψ_took = ap (λ (z : ℕ). φ d ⊕ z * (φ d ⊕ c)) m.on ∙ ap (λ (z : ℕ). φ d ⊕ z) (one-mul (φ d ⊕ c)) ∙ cancel (φ d) c

    ψ_keep : (x : ℕ) → Open ws os x ⊎ Open ws os (x ⊕ d) → Same ws x (ψ x)
    ψ_keep x (inl o) = subst (λ (z : ℕ). Same ws x z) (sym (ψ_same x o)) (g.keep x o)
    ψ_keep x (inr o) =
        let e : ψ x ≡ φ (x ⊕ d) ⊕ c = ap ψ (sym (cancel_r x d)) ∙ ψ_lin (x ⊕ d) d ∙ ap₂ bit_xor (ψ_same (x ⊕ d) o) ψ_took in
        subst₂ (λ (y z : ℕ). Same ws y z) (cancel_r x d) (sym e) (k (x ⊕ d) o)

    new : Advance ws os φ c
    new =
        record {
          col = d;
          ps = ps;
          ψ = ψ;
          good = record { lin = ψ_lin; fit = ψ_fit; keep = λ x o. ψ_keep x (next_open n x o) };
          fits = next_fits n f;
          now = next_in_lem n;
          wide = widen n;
          same = ψ_same;
          took = ψ_took;
          read = λ ds r. opens n r;
        }

  pub advance : Advance ws os φ c
  advance = go (step ws os f φ g c hc)
    where
      go : Old ws os φ c ⊎ New ws os φ c → Advance ws os φ c
      go (inl o) = old o
      go (inr (d, ps, n, k)) = new d ps n k

-- ---- all columns
pub record Grown (ws os : List ℕ) (φ : ℕ → ℕ) (cs : List ℕ) : Type 0 where
  pub ds : List ℕ
  pub qs : List ℕ
  pub ψ : ℕ → ℕ
  pub good : Good ws qs ψ
  pub fits : Fits ws qs
  pub reads : Reads ws os ds
  pub size : length ds ≡ length cs
  pub inside : (x e : ℕ) → Open ws os x → Open ws qs (x ⊕ alias ds e)
  pub stands : (x e : ℕ) → Open ws os x → φ x ⊕ alias cs e ≡ ψ (x ⊕ alias ds e)

module _ (ws os : List ℕ) (f : Fits ws os) (φ : ℕ → ℕ) (g : Good ws os φ) (c : ℕ) (cs : List ℕ) (v : Advance ws os φ c) (r : Grown ws v.ps v.ψ cs) where
  digit : (e : ℕ) → e % 2 < 2
  digit e = mod-lt e (zero-lt-suc 1)

  moved_open : (x e : ℕ) → Open ws os x → Open ws v.ps (x ⊕ e % 2 * v.col)
  moved_open x e o = open_xor ws v.ps x (e % 2 * v.col) (v.wide x o) (times_open ws v.ps v.fits (e % 2) v.col (digit e) v.now)

  moved_ψ : (x e : ℕ) → Open ws os x → v.ψ (x ⊕ e % 2 * v.col) ≡ φ x ⊕ e % 2 * c
  moved_ψ x e o =
      v.good.lin x (e % 2 * v.col)
      ∙ ap₂ bit_xor (v.same x o) (lin_times v.ψ v.good.lin (e % 2) v.col (digit e) ∙ ap (λ (z : ℕ). e % 2 * z) v.took)

  regroup : (x e : ℕ) → (x ⊕ e % 2 * v.col) ⊕ alias r.ds (e / 2) ≡ x ⊕ alias (v.col ∷ r.ds) e
  regroup x e = xor_assoc x (e % 2 * v.col) (alias r.ds (e / 2))

  more : Grown ws os φ (c ∷ cs)
  more =
      record {
        ds = v.col ∷ r.ds;
        qs = r.qs;
        ψ = r.ψ;
        good = r.good;
        fits = r.fits;
        reads = v.read r.ds r.reads;
        size = ap suc r.size;
        inside = λ x e o. subst (Open ws r.qs) (regroup x e) (r.inside (x ⊕ e % 2 * v.col) (e / 2) (moved_open x e o));
        stands = λ x e o.
            sym (xor_assoc (φ x) (e % 2 * c) (alias cs (e / 2)))
            ∙ ap (λ (z : ℕ). z ⊕ alias cs (e / 2)) (sym (moved_ψ x e o))
            ∙ r.stands (x ⊕ e % 2 * v.col) (e / 2) (moved_open x e o)
            ∙ ap r.ψ (regroup x e);
      }

pub grow : (ws cs : List ℕ) → ((i : ℕ) → get_or cs i 0 < 2 ^ total ws) → (os : List ℕ) → Fits ws os → (φ : ℕ → ℕ) → Good ws os φ → Grown ws os φ cs
grow ws [] hs os f φ g =
    record {
      ds = [];
      qs = os;
      ψ = φ;
      good = g;
      fits = f;
      reads = done;
      size = refl;
      inside = λ x e o. rw xor_zero_r o;
      stands = λ x e o. xor_zero_r (φ x) ∙ ap φ (sym (xor_zero_r x));
    }
grow ws (c ∷ cs) hs os f φ g =
    let v = advance ws os f φ g c (hs 0) in
    more ws os f φ g c cs v (grow ws cs (λ i. hs (suc i)) v.ps v.fits v.ψ v.good)
