use Rattle.theory.proofs.Tables.{column_fact, words_fact}
use Rattle.theory.proofs.laws.counts_grow_by_columns.Goals as goal

pub returns : goal.returns
returns c = record { columns = column_fact; words = words_fact }
