use Rattle.std.proofs.Common.{[], arith}
use Rattle.text.proofs.Laws.{added_fits}
use Rattle.spelling.proofs.answer.spelling.put_rows.Goals as goal

pub returns : goal.returns
returns c =
    let fits = added_fits 1024 [] c.as_slice.result.now (omega arith) in
    cc
