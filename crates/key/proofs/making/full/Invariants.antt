use Rattle.std.proofs.Common.{◌≡◌, ℕ, ◌<◌, false, length, get_or, take, IsTrue, ◌↔◌}
use Rattle.key.proofs.Reach.{Reach}
use Rattle.key.proofs.making.full.Given as goal

-- the marks are the words that the columns so far reach
abbrev pub invariant-loop-column : goal.invariant-loop-column
invariant-loop-column l = (length l.seen ≡ 32) × ((v : ℕ) → v < 32 → IsTrue (get_or l.seen v false) ↔ Reach (take l.column-index l.columns) v)
