-- How a sheet is cut into lines, and a line into words. Assumes nothing.
use Rattle.std.specs.Prelude.{◌≡◌, ℕ, ◌+◌, ◌-◌, ◌<◌, Bool, true, cond, not, ◌||◌, List, [], ◌∷◌, ◌++◌, length, codes, ◌==◌, ◌≢◌, slice_index, refl}
use Rattle.std.specs.List.{prefix_len, AllByRecursion}

-- how many bytes come before the first b; how many there are, where there is no b
abbrev pub length_up_to : ℕ → List ℕ → ℕ
length_up_to b xs = prefix_len (λ x. not (x == b)) xs

-- the byte x in front of the first piece
abbrev pub on_first : ℕ → List (List ℕ) → List (List ℕ)
on_first x [] = (x ∷ []) ∷ []
on_first x (p ∷ ps) = (x ∷ p) ∷ ps

-- the pieces between the b's: there is always one piece, and one more for each b
abbrev pub pieces : ℕ → List ℕ → List (List ℕ)
pieces b [] = [] ∷ []
pieces b (x ∷ xs) = cond (x == b) ([] ∷ pieces b xs) (on_first x (pieces b xs))

-- the words of a line: it is cut at every space, so that words may be empty
abbrev pub words : List ℕ → List (List ℕ)
words xs = pieces 32 xs

-- the lines of a sheet, each without the line feed that ends it; bytes after the last line feed are a line too
abbrev pub lines : List ℕ → List (List ℕ)
lines [] = []
lines (x ∷ xs) = cond (x == 10) ([] ∷ lines xs) (on_first x (lines xs))

-- the words with the columns at which they begin, the first at c
abbrev pub placed : ℕ → List (List ℕ) → List (ℕ × List ℕ)
placed c [] = []
placed c (p ∷ ps) = (c, p) ∷ placed (c + (length p + 1)) ps

-- the lines with their numbers, the first with n
abbrev pub numbered : ℕ → List (List ℕ) → List (ℕ × List ℕ)
numbered n [] = []
numbered n (l ∷ ls) = (n, l) ∷ numbered (n + 1) ls

-- whether each line ends with a line feed: there is no byte, or the last one is a line feed
abbrev pub fed : List ℕ → Bool
fed xs = length xs == 0 || slice_index xs (length xs - 1) == 10

-- the words with a space between each two
abbrev pub spaced : List (List ℕ) → List ℕ
spaced [] = []
spaced (p ∷ []) = p
spaced (p ∷ q ∷ ps) = p ++ (32 ∷ spaced (q ∷ ps))

-- the lines with a line feed after each
abbrev pub feeding : List (List ℕ) → List ℕ
feeding [] = []
feeding (l ∷ ls) = l ++ (10 ∷ feeding ls)

-- whether b is none of the bytes
abbrev pub Without : ℕ → List ℕ → Type 0
Without b xs = AllByRecursion (λ x. x ≢ b) xs

-- cutting into words loses nothing, gives at least one word, and no word holds a space
abbrev pub WordsStand : Type 0
WordsStand = (xs : List ℕ) → (spaced (words xs) ≡ xs) × (0 < length (words xs)) × AllByRecursion (Without 32) (words xs)

-- cutting into lines loses nothing where each line ends with a line feed, and no line holds one
abbrev pub LinesStand : Type 0
LinesStand = (xs : List ℕ) → fed xs ≡ true → (feeding (lines xs) ≡ xs) × AllByRecursion (Without 10) (lines xs)

-- three words, the last of them empty
example_words : placed 1 (words (codes "rank x ")) ≡ (1, codes "rank") ∷ (6, codes "x") ∷ (8, []) ∷ []
example_words = refl

-- a line of one word, then an empty line
example_lines : numbered 1 (lines (102 ∷ 10 ∷ 10 ∷ [])) ≡ (1, 102 ∷ []) ∷ (2, []) ∷ []
example_lines = refl
