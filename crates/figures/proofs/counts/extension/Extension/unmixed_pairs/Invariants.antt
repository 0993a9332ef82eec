use Rattle.std.proofs.Common.{◌≡◌, ◌≤◌}
use Rattle.figures.proofs.Extending.{Summed}
use Rattle.figures.proofs.counts.extension.Extension.unmixed_pairs.Given as goal

-- the words from the next one on are left
abbrev pub invariant-loop-word : goal.invariant-loop-word
invariant-loop-word l =
    goal.iterator-loop-word.can_next l.word-iterator
    × goal.iterator-loop-word.is_finite l.word-iterator
    × (l.word-iterator.start ≤ l.word-iterator.end)
    × (l.word-iterator.end ≡ l.fn.words.end)
    × Summed l.self l.fn.words.start l.word-iterator.start l.sum l.squares
