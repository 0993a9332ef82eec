use Rattle.std.proofs.Common.{[], ◌∷◌, codes, decimal, arith}
use Rattle.text.proofs.Laws.{added_all}
use Rattle.spelling.proofs.Lengths.{twenty_digits}
use Rattle.spelling.proofs.answer.spelling.put_fault.Goals as goal

pub returns : goal.returns
returns c =
    let place = c.place-place.result in
    let number = twenty_digits c.from.result (omega arith) in
    let line = twenty_digits place.line (omega arith) in
    let column = twenty_digits place.column (omega arith) in
    let all = added_all 1024 [] (codes "bad " ∷ decimal c.from.result ∷ codes " line " ∷ decimal place.line ∷ codes " column " ∷ decimal place.column ∷ codes "\n" ∷ []) (omega arith) in
    cc
