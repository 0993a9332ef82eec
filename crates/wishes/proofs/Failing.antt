-- A wish that the first columns fail.
use Rattle.std.proofs.Common.{◌≡◌, ℕ, ◌<◌, ◌≤◌, Bool, true, false, ltb, List, length, All, Some, None, Option, MatchBool, MatchOption, sym, refl, ap, subst, arith, length-take}
use native.Mathlib.Nat.{min-le_right}
use Rattle.std.proofs.lemmas.Bool.{ltb-true, ltb-false}
use Rattle.theory.specs.declared.wish.Wish.{Wish}
use Rattle.theory.specs.declared.wish.Wish.TheVariants.{Clear, Least}
use Rattle.theory.specs.Words.{alias}
use Rattle.theory.specs.Laws.{Resolves}
use Rattle.theory.specs.Tallies.{members, resolution}
use Rattle.theory.specs.Wishes.{Formed, Meets}
use Rattle.theory.proofs.Defining.{resolution_fact}
use Rattle.theory.proofs.Fronts.{front_fact}
use Rattle.wishes.specs.Tests.{Fails, Passes, MetByNone, SomeFails, AllMetByNone}
use Rattle.wishes.proofs.Counting.{clear_met, clear_main, clear_other, least_none, least_met, least_short}

pub when_by : {P Q : Type 0} (b : Bool) → (b ≡ true → P) → (b ≡ false → Q) → MatchBool b P Q
when_by true on off = on refl
when_by false on off = off refl

-- whether columns do not meet a wish
abbrev pub Unmet : List ℕ → List ℕ → Wish → Bool → Type 0
Unmet ws cs wish r = MatchBool r (Meets ws cs wish → ⊥) (Meets ws cs wish)

-- no key that begins with columns that fail a wish meets it
pub fails_for_all : (ws cs : List ℕ) (wish : Wish) → Fails ws cs wish → MetByNone ws cs wish
fails_for_all ws cs wish fails ds begins met =
    fails.1 (subst (λ (xs : List ℕ). Meets ws xs wish) begins (front_fact ws (length cs) ds wish long fails.0 met))
  where
    long : length cs ≤ length ds
    long = omega (arith, ap length (sym begins), length-take (length cs) ds, min-le_right (length cs) (length ds))

-- ---- clear and least, as the test has them
module _ (ws cs : List ℕ) (wish : Wish) (formed : Formed (length cs) wish) where
  pub clear_by_main : (e v x : ℕ) → wish ≡ Clear e → v ≡ alias cs e → x ≡ members cs 1 v → 0 < x → Unmet ws cs wish (ltb 0 x)
  clear_by_main e v x is word value some =
      subst (λ (y : Wish). Unmet ws cs y (ltb 0 x)) (sym is)
      (when_by (ltb 0 x) (λ _. clear_main ws cs e of.0 of.1 (λ z. omega (arith, value, ap (members cs 1) word)))
      (λ t. absurd (omega (arith, ltb-false 0 x t))))
    where
      of : Formed (length cs) (Clear e)
      of = subst (Formed (length cs)) is formed

  pub clear_by_other : (e v x y : ℕ) → wish ≡ Clear e → v ≡ alias cs e → x ≡ members cs 1 v → x ≤ 0 → y ≡ members cs 2 v → Unmet ws cs wish (ltb 1 y)
  clear_by_other e v x y is word value none others =
      subst (λ (z : Wish). Unmet ws cs z (ltb 1 y)) (sym is)
      (when_by (ltb 1 y) (λ t. clear_other ws cs e of.0 of.1 (omega (arith, ltb-true 1 y t, ap (members cs 2) word)))
      (λ t. clear_met ws cs e of.0 of.1 (omega (arith, ap (members cs 1) word)) (omega (arith, ltb-false 1 y t, ap (members cs 2) word))))
    where
      of : Formed (length cs) (Clear e)
      of = subst (Formed (length cs)) is formed

  pub least_by : (r : ℕ) (o : Option ℕ) (Told : ℕ → Type 0) (unmet : Bool) → wish ≡ Least r → o ≡ resolution cs → MatchOption o (unmet ≡ false) Told → ((j : ℕ) → Told j → unmet ≡ ltb j r) → Unmet ws cs wish unmet
  least_by r o Told unmet is least found told = subst (λ (y : Wish). Unmet ws cs y unmet) (sym is) (go o (subst (Resolves cs) (sym least) (resolution_fact cs)) found)
    where
      go : (o : Option ℕ) → Resolves cs o → MatchOption o (unmet ≡ false) Told → Unmet ws cs (Least r) unmet
      go None law e = rw e (least_none ws cs r law)
      go (Some j) law t = rw (told j t) (when_by (ltb j r) (λ t. least_short ws cs r j law (ltb-true j r t)) (λ t. least_met ws cs r j law (ltb-false j r t)))

-- ---- a list of wishes

-- no key that begins with columns that fail a wish of the list meets them all
pub some_fails_for_all : (ws cs : List ℕ) (wishes : List Wish) → SomeFails ws cs wishes → AllMetByNone ws cs wishes
some_fails_for_all ws cs wishes (k, wish, h, at, fails) ds begins met =
    fails_for_all ws cs wish fails ds begins (subst (Meets ws ds) at (met k wish h))

-- where no wish of a whole key's factors fails, the key meets all of them
pub none_fails_met : (ws cs : List ℕ) (wishes : List Wish) → All (Formed (length cs)) wishes → All (Passes ws cs) wishes → All (Meets ws cs) wishes
none_fails_met ws cs wishes formed pass k d h = pass k d h (formed k d h)
