-- What a line from the third on says: `find`, `layout` or `chain e`. Assumes nothing.
use Rattle.std.specs.Prelude.{◌≡◌, ℕ, cond, List, [], ◌∷◌, Ok, Err, codes, Result, refl}
use Rattle.std.specs.Str.{bytes_eq}
use Rattle.sheet.specs.Asks.{place_at, effect_at}
use Rattle.sheet.specs.Cuts.{words, placed}
use Rattle.sheet.specs.Faults.{and_then}
use Rattle.sheet.specs.declared.fault.WordFault.TheVariants.{Unknown, Letters}
use Rattle.sheet.specs.declared.fault.LineFault.{LineFault}
use Rattle.sheet.specs.declared.fault.LineFault.TheVariants.{Word, Count}
use Rattle.sheet.specs.declared.letters.Alphabet.{Alphabet}
use Rattle.lines.specs.declared.command.Command.{Command}
use Rattle.lines.specs.declared.command.Command.TheVariants.{Find, Layout, Chain}

-- a line that is to have no further word
abbrev pub no_words_left : ℕ → List (ℕ × List ℕ) → Result Unit LineFault
no_words_left line [] = Ok tt
no_words_left line (w ∷ ws) = Err (Count line)

-- a line that is to have one further word, an effect
abbrev pub only_effect : Alphabet → ℕ → List (ℕ × List ℕ) → Result ℕ LineFault
only_effect a line [] = Err (Count line)
only_effect a line (e ∷ []) = and_then Word (effect_at a line e) (λ x. Ok x)
only_effect a line (e ∷ w ∷ ws) = Err (Count line)

-- a line's fault stays as it is
abbrev pub itself : LineFault → LineFault
itself e = e

-- first the fixed word, then how many words there are, then the letters
abbrev pub commands : Alphabet → ℕ → List (ℕ × List ℕ) → Result Command LineFault
commands a line [] = Err (Count line)
commands a line (h ∷ ws) =
    cond (bytes_eq h.1 (codes "find")) (and_then itself (no_words_left line ws) (λ _. Ok Find))
    (cond (bytes_eq h.1 (codes "layout")) (and_then itself (no_words_left line ws) (λ _. Ok Layout))
    (cond (bytes_eq h.1 (codes "chain")) (and_then itself (only_effect a line ws) (λ e. Ok (Chain e)))
    (Err (Word (Unknown (place_at line h))))))

example_chain : commands (record { n1 = 1; n2 = 3 }) 4 (placed 1 (words (codes "chain Ar"))) ≡ Ok (Chain 9)
example_chain = refl

example_empty : commands (record { n1 = 1; n2 = 3 }) 4 (placed 1 (words (codes "chain "))) ≡ Err (Word (Letters (record { line = 4; column = 7 })))
example_empty = refl

example_find : commands (record { n1 = 1; n2 = 3 }) 3 (placed 1 (words (codes "find "))) ≡ Err (Count 3)
example_find = refl
