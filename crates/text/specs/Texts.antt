-- What is written into a buffer, and what is added to a text in a place of bounded size. Assumes nothing.
use Rattle.std.specs.Prelude.{◌≡◌, ℕ, ◌+◌, Bool, cond, List, [], ◌∷◌, ◌++◌, length, take, drop, nat_le, refl}

-- d with the text s in place of what it has from `at` on
abbrev pub put : List ℕ → ℕ → List ℕ → List ℕ
put d at s = take at d ++ (s ++ drop (at + length s) d)

-- whether d has room for the text s from `at` on
abbrev pub fits : List ℕ → ℕ → List ℕ → Bool
fits d at s = nat_le (at + length s) (length d)

-- d after the text s was put there, where it fits; else d as it was
abbrev pub written : List ℕ → ℕ → List ℕ → List ℕ
written d at s = cond (fits d at s) (put d at s) d

-- where the text s ends, where it fits; else `at`
abbrev pub ended : List ℕ → ℕ → List ℕ → ℕ
ended d at s = cond (fits d at s) (at + length s) at

-- whether a place for that many bytes has room for the bytes s after the text t
abbrev pub has_room : ℕ → List ℕ → List ℕ → Bool
has_room cap t s = nat_le (length t + length s) cap

-- the text t after the bytes s were added, where they fit; else t as it was
unfoldable pub added : ℕ → List ℕ → List ℕ → List ℕ
added cap t s = cond (has_room cap t s) (t ++ s) t

-- two bytes at place 1 of four, and at place 3, where there is room for one
example_fits : written (1 ∷ 2 ∷ 3 ∷ 4 ∷ []) 1 (8 ∷ 9 ∷ []) ≡ 1 ∷ 8 ∷ 9 ∷ 4 ∷ []
example_fits = refl

example_not : written (1 ∷ 2 ∷ 3 ∷ 4 ∷ []) 3 (8 ∷ 9 ∷ []) ≡ 1 ∷ 2 ∷ 3 ∷ 4 ∷ []
example_not = refl

example_end : ended (1 ∷ 2 ∷ 3 ∷ 4 ∷ []) 1 (8 ∷ 9 ∷ []) ≡ 3
example_end = refl

-- two bytes after two others where there is room for four, and for three
example_added : added 4 (1 ∷ 2 ∷ []) (8 ∷ 9 ∷ []) ≡ 1 ∷ 2 ∷ 8 ∷ 9 ∷ []
unfolding added
example_added = refl

example_no_room : added 3 (1 ∷ 2 ∷ []) (8 ∷ 9 ∷ []) ≡ 1 ∷ 2 ∷ []
unfolding added
example_no_room = refl
