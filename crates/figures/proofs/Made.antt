-- What `array::from_fn` gives, where each call tells a function of the index.
use Rattle.std.proofs.Common.{◌≡◌, ℕ, zero, suc, ◌+◌, ◌<◌, ◌≤◌, ◌⊎◌, List, map, get_or, sym, ap, ◌∙◌, subst, inl, inr, arith}
use denote.Param.Members.{Mut, Called}
use Rattle.std.specs.Array.{IsFromFnResultFrom, IsFromFnResult}
use Rattle.std.specs.List.{range_with_len}
use Rattle.std.proofs.lemmas.Bool.{cases_eq}
use Rattle.std.proofs.lemmas.List.FromFn.{fill_by_all}

module _ {F B : Type 0} (g : Mut F (ℕ × Unit {0}) B) (f : F) (h : ℕ → B) (n : ℕ) (call : (i : ℕ) (y : B) (q : F) → i < n → Called g f (i, tt) y q → (y ≡ h i) × (q ≡ f)) where
  made_from : (ys : List B) (i m : ℕ) → i + m ≡ n → IsFromFnResultFrom g f ys i m → (k : ℕ) (d : B) → i ≤ k → k < n → get_or ys k d ≡ h k
  made_from ys i zero e r k d l u = absurd (omega arith)
  made_from ys i (suc m) e r k d l u =
      let here = call i r.1 r.0 (omega arith) r.3 in
      go (cases_eq k i) here.0 (λ later. made_from ys (i + 1) m (omega arith) (subst (λ (q : F). IsFromFnResultFrom g q ys (i + 1) m) here.1 r.4) k d later u)
    where
      go : (k ≡ i) ⊎ (k ≡ i → ⊥) → r.1 ≡ h i → (i + 1 ≤ k → get_or ys k d ≡ h k) → get_or ys k d ≡ h k
      go (inl s) is on = ap (λ (x : ℕ). get_or ys x d) s ∙ r.2.1 d ∙ is ∙ ap h (sym s)
      go (inr s) is on = on (omega arith)

  pub made_map : (ys : List B) (d : B) → IsFromFnResult g f ys n → ys ≡ map h (range_with_len 0 n)
  made_map ys d r = fill_by_all h ys n d r.long (λ k l. made_from ys 0 n (omega arith) r.each k d (omega arith) l)
