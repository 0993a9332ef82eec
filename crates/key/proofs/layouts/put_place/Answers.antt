use Rattle.std.proofs.Common.{◌+◌, [], ◌∷◌, codes, decimal, arith}
use Rattle.few.specs.Few.{items}
use Rattle.text.proofs.Laws.{added_all}
use Rattle.key.proofs.Rows.{two_digits}
use Rattle.key.proofs.layouts.put_place.Goals as goal

pub returns : goal.returns
returns c =
    let p = two_digits c.args.plot c.requires.few.0 in
    let t = two_digits c.args.subplot c.requires.few.1 in
    let all = added_all 544 (items c.args.text.now) (decimal (c.args.plot + 1) ∷ codes " " ∷ decimal (c.args.subplot + 1) ∷ codes " " ∷ []) (omega arith) in
    cc
