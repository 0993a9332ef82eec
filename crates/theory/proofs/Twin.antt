-- Every sound key has exactly one standard twin.
use Rattle.std.proofs.Common.{◌≡◌, ℕ, ◌%◌, ◌^◌, ◌<◌, List, length, get_or, sym, ap, ◌∙◌, subst, mod-lt, pow_pos}
use Rattle.theory.specs.Words.{alias, stratum, total}
use Rattle.theory.specs.Keys.{Sound, Standard, Twins, Open, none, Full}
use Rattle.theory.specs.Twins.{TwinFact}
use Rattle.theory.proofs.Words.{◌⊕◌, alias_at, alias_mod}
use Rattle.theory.proofs.Opens.{Same, same_of_stratum, stratum_of_same, open_0}
use Rattle.theory.proofs.Unique.{unique}
use Rattle.theory.proofs.Step.{good_inj}
use Rattle.theory.proofs.Grow.{Grown, grow}
use Rattle.theory.proofs.Sounds.{words_all, alias_lt, an_effect}
use Rattle.theory.proofs.Count.{all_open_lem, open_lt, none_fits, none_0, good_none}

module _ (ws ts cs : List ℕ) (s : Sound ws ts cs) where
  r : Grown ws (none ws) (λ x. 0) cs
  r = grow ws cs (words_all ws cs s.words) (none ws) (none_fits ws) (λ x. 0) (good_none ws)

  ds : List ℕ
  ds = r.ds

  o_0 : Open ws (none ws) 0
  o_0 = open_0 ws (none ws) (none_fits ws)

  inside : (e : ℕ) → Open ws r.qs (alias ds e)
  unfolding ds
  inside e = r.inside 0 e o_0

  stands : (e : ℕ) → alias cs e ≡ r.ψ (alias ds e)
  unfolding ds
  stands e = r.stands 0 e o_0

  strata : (e : ℕ) → stratum ws (alias cs e) ≡ stratum ws (alias ds e)
  strata e = ap (stratum ws) (stands e) ∙ sym (stratum_of_same ws (alias ds e) (r.ψ (alias ds e)) (r.good.keep (alias ds e) (inside e)))

  chain_to : (e f : ℕ) → alias cs e ≡ alias cs f → alias ds e ≡ alias ds f
  chain_to e f p = good_inj ws r.qs r.ψ r.good (alias ds e) (alias ds f) (inside e) (inside f) (sym (stands e) ∙ p ∙ stands f)

  chain_from : (e f : ℕ) → alias ds e ≡ alias ds f → alias cs e ≡ alias cs f
  chain_from e f p = stands e ∙ ap r.ψ p ∙ sym (stands f)

  twins : Twins ws (length ts) cs ds
  twins = record { strata = λ e h. strata e; chains = λ e f he hf. (chain_to e f, chain_from e f) }

  words : (i : ℕ) → get_or ds i 0 < 2 ^ total ws
  words i = subst (λ (z : ℕ). z < 2 ^ total ws) (alias_at ds i) (open_lt ws r.qs (alias ds (2 ^ i)) (inside (2 ^ i)))

  v_open : (v : ℕ) → v < 2 ^ total ws → Open ws r.qs v
  v_open = all_open_lem ws r.qs r.fits r.ψ r.good (λ v h. let k = an_effect ws cs s.full v h in (alias ds k.0, inside k.0, sym (stands k.0) ∙ k.2))

  long : length ds ≡ length cs
  unfolding ds
  long = r.size

  full : Full ws ds
  full v h =
      let k = an_effect ws cs s.full (r.ψ v) (r.good.fit v) in
      ∣ (
        k.0,
        subst (λ (m : ℕ). k.0 < 2 ^ m) (sym long) k.1,
        good_inj ws r.qs r.ψ r.good (alias ds k.0) v (inside k.0) (v_open v h) (sym (stands k.0) ∙ k.2),
      ) ∣₁

  sound : Sound ws ts ds
  sound =
      record {
        size = long ∙ s.size;
        words = λ i h. words i;
        own = λ i h. ap (stratum ws) (sym (alias_at ds i)) ∙ sym (strata (2 ^ i)) ∙ ap (stratum ws) (alias_at cs i) ∙ s.own i (subst (λ (m : ℕ). i < m) long h);
        apart = λ i j h l e. s.apart i j h (subst (λ (m : ℕ). j < m) long l) (sym (alias_at cs i) ∙ chain_from (2 ^ i) (2 ^ j) (alias_at ds i ∙ e ∙ sym (alias_at ds j)) ∙ alias_at cs j);
        full = full;
      }

  standard : Standard ws ts ds
  unfolding ds
  standard = record { sound = sound; reads = r.reads }

  only : (es : List ℕ) → Standard ws ts es → Twins ws (length ts) cs es → es ≡ ds
  only es t w = unique ws t.reads standard.reads (t.sound.size ∙ sym sound.size) (λ x e o. at x e (none_0 ws x o))
    where
      es_mod : (e : ℕ) → alias es (e % 2 ^ length ts) ≡ alias es e
      es_mod e = subst (λ (m : ℕ). alias es (e % 2 ^ m) ≡ alias es e) t.sound.size (alias_mod es e)

      ds_mod : (e : ℕ) → alias ds (e % 2 ^ length ts) ≡ alias ds e
      ds_mod e = subst (λ (m : ℕ). alias ds (e % 2 ^ m) ≡ alias ds e) sound.size (alias_mod ds e)

      one : (e : ℕ) → stratum ws (alias es e) ≡ stratum ws (alias ds e)
      one e =
          ap (stratum ws) (sym (es_mod e)) ∙ sym (w.strata (e % 2 ^ length ts) (mod-lt e (pow_pos (length ts))))
          ∙ strata (e % 2 ^ length ts) ∙ ap (stratum ws) (ds_mod e)

      at : (x e : ℕ) → x ≡ 0 → Same ws (x ⊕ alias es e) (x ⊕ alias ds e)
      at x e z =
          subst (λ (y : ℕ). Same ws (y ⊕ alias es e) (y ⊕ alias ds e)) (sym z)
          (same_of_stratum ws (alias es e) (alias ds e) (alias_lt (total ws) es (words_all ws es t.sound.words) e) (alias_lt (total ws) ds words e) (one e))

pub twin_fact : TwinFact
twin_fact ws ts cs s = (ds ws ts cs s, standard ws ts cs s, twins ws ts cs s, only ws ts cs s)
