use Rattle.std.proofs.Common.{◌≡◌, ℕ, ◌+◌, ◌-◌, ◌<◌, ◌≤◌, List, ◌++◌, length, take, drop, remove, sym, ap, ◌∙◌, ap₂, take-take, length-drop, add-one, arith}
use Rattle.std.specs.List.{copy_within}
use Rattle.std.proofs.lemmas.List.{drop-take}
use Rattle.std.proofs.lemmas.List.Edits.{take-paste}
use Rattle.few.proofs.Few.remove.Goals as goal

-- the first n, of which the one at i was overwritten by the later ones
closed : {X : Type 0} (xs : List X) (n i : ℕ) → i < n → n ≤ length xs → take (n - 1) (copy_within xs (i + 1) n i) ≡ remove (take n xs) i
closed {X} xs n i lt le =
    let m = n - (i + 1) in
    ap (λ k. take k (copy_within xs (i + 1) n i)) (omega arith)
    ∙ take-paste xs i (drop (i + 1) xs) m (omega arith) (omega (arith, length-drop (i + 1) xs))
    ∙ ap₂ (λ (ys zs : List X). ys ++ zs) (sym (take-take i n xs (omega arith))) (sym (drop-take (i + 1) m xs) ∙ ap (λ k. drop (i + 1) (take k xs)) (omega arith) ∙ ap (λ k. drop k (take n xs)) (add-one i))

pub returns-clause-some : goal.returns-clause-some
returns-clause-some g c =
    rw c.copy_within.ensures.after (closed c.args.self.now.places c.args.self.now.size c.args.index (omega arith) (omega arith))
