-- The turned key meets a wish where the key meets the turned wish.
use Rattle.std.proofs.Common.{◌≡◌, ℕ, suc, ◌^◌, ◌<◌, ◌≤◌, Bool, true, false, cond, ltb, ◌≢◌, List, length, sym, ap, ◌∙◌, subst}
use Rattle.theory.specs.declared.wish.Wish.{Wish}
use Rattle.theory.specs.declared.wish.Wish.TheVariants.{Clear, Apart, Fine, Word, Least}
use Rattle.theory.specs.Words.{alias, stratum}
use Rattle.theory.specs.Wishes.{Meets}
use Rattle.exchange.specs.Exchanges.{turned, effect_turned, wish_turned}
use Rattle.exchange.proofs.Effects.{length_turned, effect_twice, ones_turned, turned_below, mean_stays, alias_back}

module _ (ws : List ℕ) (i : ℕ) (cs : List ℕ) (h : suc i < length cs) where
  abbrev turn : ℕ → ℕ
  turn e = effect_turned i e

  back : (e : ℕ) → alias (turned i cs) e ≡ alias cs (turn e)
  back e = alias_back i cs e h

  -- an effect of the turned key is one of the key once turned
  under : (f : ℕ) → f < 2 ^ length (turned i cs) → turn f < 2 ^ length cs
  under f l = turned_below i (length cs) f h (subst (λ (n : ℕ). f < 2 ^ n) (length_turned i cs) l)

  in_order : (e f : ℕ) (b : Bool) → Meets ws cs (cond b (Apart e f) (Apart f e)) → alias cs e ≢ alias cs f
  in_order e f true m a = m a
  in_order e f false m a = m (sym a)

  pub meets_turned : (wish : Wish) → Meets ws cs (wish_turned i wish) → Meets ws (turned i cs) wish
  meets_turned (Clear e) m = λ f l a.
      let r = m (turn f) (under f l) (sym (back f) ∙ a ∙ back e) in
      (λ o. r.0 (ones_turned i f ∙ o), λ o. sym (effect_twice i f) ∙ ap (effect_turned i) (r.1 (ones_turned i f ∙ o)) ∙ effect_twice i e)
  meets_turned (Apart e f) m = λ a. in_order (turn e) (turn f) (ltb (turn e) (turn f)) m (sym (back e) ∙ a ∙ back f)
  meets_turned (Fine e) m = ap (stratum ws) (back e) ∙ m
  meets_turned (Word e) m = back e ∙ m
  meets_turned (Least r) m = λ f l n a.
      subst (λ (x : ℕ). r ≤ x) (ones_turned i f) (m (turn f) (under f l) (λ z. n (sym (effect_twice i f) ∙ ap (effect_turned i) z ∙ mean_stays i)) (sym (back f) ∙ a))
