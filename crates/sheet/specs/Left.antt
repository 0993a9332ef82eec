-- What a reader and a line have still to give. Assumes nothing.
use Rattle.std.specs.Prelude.{◌≡◌, ℕ, ◌+◌, cond, List, [], ◌∷◌, length, drop, Option, MatchOption, codes, nat_le, refl}
use Rattle.std.specs.Iterator.{YieldsFirstBy}
use Rattle.sheet.specs.Cuts.{lines, words, placed, numbered}
use Rattle.sheet.specs.declared.reader.Reader.{Reader}
use Rattle.sheet.specs.declared.reader.Line.{Line}
use Rattle.sheet.specs.declared.token.Part.{Part}

-- the lines of a sheet from the byte `at` on, with their numbers, where `before` lines have come before
abbrev pub lines_from : ℕ → ℕ → List ℕ → List (ℕ × List ℕ)
lines_from before at xs = numbered (before + 1) (lines (drop at xs))

-- the words of a line from the byte `at` on, with their columns; past the end there is none
abbrev pub words_from : ℕ → List ℕ → List (ℕ × List ℕ)
words_from at xs = placed (at + 1) (cond (nat_le at (length xs)) (words (drop at xs)) [])

-- the lines that a reader has still to give, with their numbers
abbrev pub lines_left : Reader → List (ℕ × List ℕ)
lines_left r = lines_from r.line r.at r.sheet.now

-- the words that a line has still to give, with their columns
abbrev pub words_left : Line → List (ℕ × List ℕ)
words_left l = words_from l.at l.bytes.now

-- what is read of a line, of its number and the words that it has still to give
abbrev pub read_of : {R : Type 0} → (ℕ → List (ℕ × List ℕ) → R) → Line → R
read_of read l = read l.number (words_left l)

-- One call for the next line: the first of the lines left is given whole, with no word read, and those after it are left,
-- from past its line feed on, of the same sheet; where no line is left, there is none and nothing changes.
pub record GivesLine (r : Reader) (line : Option Line) (r' : Reader) : Type 0 where
  pub given : YieldsFirstBy (λ (l : Line). (l.number, l.bytes.now)) lines_left r line r'
  pub whole : MatchOption line (r' ≡ r) (λ l. (words_left l ≡ placed 1 (words l.bytes.now)) × (r'.line ≡ l.number))
  pub sheet : r'.sheet.now ≡ r.sheet.now
  pub rest : MatchOption line (r' ≡ r) (λ l. drop r'.at r'.sheet.now ≡ drop (length l.bytes.now + 1) (drop r.at r.sheet.now))

-- One call for the next word: the first of the words left is given, with its place, and those after it are left, of the
-- same line; where no word is left, there is none and nothing changes.
pub record GivesWord (l : Line) (word : Option Part) (l' : Line) : Type 0 where
  pub given : YieldsFirstBy (λ (w : Part). (w.place.column, w.bytes.now)) words_left l word l'
  pub place : MatchOption word (l' ≡ l) (λ w. w.place.line ≡ l.number)
  pub line : l'.bytes.now ≡ l.bytes.now
  pub number : l'.number ≡ l.number

-- after `rank` two words are left, the last of them empty; after that one there is none
example_two : words_from 5 (codes "rank x ") ≡ (6, codes "x") ∷ (8, []) ∷ []
example_two = refl

example_none : words_from 8 (codes "rank x ") ≡ []
example_none = refl
