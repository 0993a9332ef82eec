-- What an extension of counts is of. Assumes nothing.
use Rattle.std.specs.Prelude.{ℕ, List, [], ◌∷◌, ◌++◌}
use Rattle.figures.specs.Counted.{columns_in}
use Rattle.figures.specs.declared.counts.extension.Extension.{Extension}

-- the columns, with the one more
abbrev pub all_columns : Extension → List ℕ
all_columns extension = columns_in extension.counts.now ++ extension.column ∷ []
