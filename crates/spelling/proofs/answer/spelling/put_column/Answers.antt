use Rattle.std.proofs.Common.{[], ◌∷◌, codes, decimal, arith}
use Rattle.few.specs.Few.{items}
use Rattle.sheet.specs.Letters.{letter_of}
use Rattle.text.proofs.Laws.{added_all}
use Rattle.spelling.proofs.Lengths.{three_digits}
use Rattle.spelling.proofs.answer.spelling.put_column.Goals as goal

pub returns : goal.returns
returns c =
    let digits = three_digits c.args.column (omega arith) in
    let all = added_all 1024 (items c.args.text.now) (codes " " ∷ (letter_of c.args.n1 c.args.factor ∷ codes "=") ∷ decimal c.args.column ∷ []) (omega arith) in
    cc
