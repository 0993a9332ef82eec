use Rattle.std.proofs.Common.{rules, ◌≡◌, cond, [], ◌∷◌, ◌++◌}
use Rattle.std.proofs.lemmas.Fn.{fold_over, fronts}
use Rattle.std.proofs.lemmas.Iterator.{YieldsList-from_slice}
use Rattle.figures.specs.Counted.{columns_in, room_for}
use Rattle.key.proofs.Fronts.{Counts-of, Counts-of_more}
use Rattle.key.proofs.figuring.counted.Goals as goal

pub returns : goal.returns
returns c =
    let so = fold_over fronts (λ y. y.now) _ (Counts-of c.args.shape) _
    (λ ys a x b f' j k.
    let same : b.shape ≡ a.shape = search rules in
    let placed : columns_in b ≡ cond (room_for a x.now) (columns_in a ++ x.now ∷ []) (columns_in a) = search rules in
    (Counts-of_more c.args.shape ys x.now a b j same placed, search rules))
    _ c.args.columns.now _ c.fold.result (YieldsList-from_slice {s = c.iter.result} c.args.columns.now cc).runs (c.new.ensures.shape, λ few words. c.new.ensures.columns) c.fold.ensures.ran in
    record { shape = so.0; columns = so.1 c.requires.few c.requires.words }
