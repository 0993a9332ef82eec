use Rattle.std.proofs.Common.{[], ◌∷◌, codes, decimal, arith}
use Rattle.text.proofs.Laws.{added_all}
use Rattle.spelling.proofs.Lengths.{twenty_digits}
use Rattle.spelling.proofs.answer.spelling.put_refused.Goals as goal

pub returns : goal.returns
returns c =
    let number = twenty_digits c.from.result (omega arith) in
    let line = twenty_digits c.args.line (omega arith) in
    let all = added_all 1024 [] (codes "no " ∷ decimal c.from.result ∷ codes " line " ∷ decimal c.args.line ∷ codes "\n" ∷ []) (omega arith) in
    cc
