use Rattle.std.proofs.Common.{◌≡◌, [], ◌++◌, length, codes, ap, lt_of_lt_of_le, arith, pow_mono, length-append}
use Rattle.few.specs.Few.{items}
use Rattle.text.proofs.Laws.{added_fits}
use Rattle.key.specs.Questions.{columns_of}
use Rattle.key.proofs.Soundness.{length_columns}
use Rattle.spelling.specs.Spelled.{columns_text}
use Rattle.spelling.proofs.Lengths.{columns_le}
use Rattle.spelling.proofs.answer.spelling.put_plan.Goals as goal
use Rattle.spelling.proofs.answer.spelling.put_plan.Goals.{After-add_bytes}

begun : (c : After-add_bytes) → items c.add_bytes.new.text ≡ codes "key"
begun c =
    let fits = added_fits 1024 [] (codes "key") (omega arith) in
    cc

pub put_columns-requires-clause-room : goal.put_columns-requires-clause-room
put_columns-requires-clause-room c = omega (arith, ap length (begun (goal.at.put_columns-requires-clause-room c).After-add_bytes))

pub returns : goal.returns
returns c =
    let key = c.args.key.now in
    let n1 = key.shape.n1 in
    let cs = columns_of key in
    let few = length_columns key in
    let short = columns_le n1 cs (length cs) (λ i l. lt_of_lt_of_le (key.sound.words i l) (pow_mono {j = 8} (omega arith))) in
    let text = codes "key" ++ columns_text n1 cs in
    let start = begun (goal.at.returns c).After-add_bytes in
    let here : items c.put_columns.new.text ≡ text = cc in
    let fits = added_fits 1024 text (codes "\n") (omega (arith, length-append (codes "key") (columns_text n1 cs))) in
    cc
