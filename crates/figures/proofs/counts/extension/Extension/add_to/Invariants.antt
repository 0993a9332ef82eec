use Rattle.std.proofs.Common.{◌≡◌, ℕ, ◌<◌, ◌≤◌, [], length, get_or}
use Rattle.figures.specs.Rows.{row_of}
use Rattle.figures.specs.Counted.{columns_in}
use Rattle.figures.specs.Extended.{all_columns}
use Rattle.figures.proofs.counts.extension.Extension.add_to.Given as goal

-- the rows so far have the column, the others have not
abbrev pub invariant-loop-word : goal.invariant-loop-word
invariant-loop-word l =
    (length l.row-items ≡ 32)
    × ((v : ℕ) → v < l.word → get_or l.row-items v [] ≡ row_of (all_columns l.self) v)
    × ((v : ℕ) → l.word ≤ v → v < 32 → get_or l.row-items v [] ≡ row_of (columns_in l.self.counts.now) v)
