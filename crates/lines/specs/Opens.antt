-- What an opening line says: `open w s n1 n2`. Assumes nothing.
use Rattle.std.specs.Prelude.{◌≡◌, ℕ, List, [], ◌∷◌, Ok, Err, codes, Result, refl}
use Rattle.sheet.specs.Asks.{fixed_at, number_at}
use Rattle.sheet.specs.Cuts.{words, placed}
use Rattle.sheet.specs.Faults.{and_then}
use Rattle.sheet.specs.declared.fault.LineFault.{LineFault}
use Rattle.sheet.specs.declared.fault.LineFault.TheVariants.{Word, Count}
use Rattle.opening.specs.declared.Numbers.{Numbers}

-- the four numbers after `open`
abbrev pub four_numbers : ℕ → List (ℕ × List ℕ) → Result Numbers LineFault
four_numbers line [] = Err (Count line)
four_numbers line (a ∷ []) = Err (Count line)
four_numbers line (a ∷ b ∷ []) = Err (Count line)
four_numbers line (a ∷ b ∷ c ∷ []) = Err (Count line)
four_numbers line (a ∷ b ∷ c ∷ d ∷ []) =
    and_then Word (number_at line a) (λ w.
    and_then Word (number_at line b) (λ s.
    and_then Word (number_at line c) (λ m.
    and_then Word (number_at line d) (λ n. Ok (record { w = w; s = s; n1 = m; n2 = n })))))
four_numbers line (a ∷ b ∷ c ∷ d ∷ e ∷ ws) = Err (Count line)

-- first the fixed word, then how many words there are, then the numbers
abbrev pub opens : ℕ → List (ℕ × List ℕ) → Result Numbers LineFault
opens line [] = Err (Count line)
opens line (h ∷ ws) = and_then Word (fixed_at (codes "open") line h) (λ _. four_numbers line ws)

example_opens : opens 1 (placed 1 (words (codes "open 2 1 1 3"))) ≡ Ok (record { w = 2; s = 1; n1 = 1; n2 = 3 })
example_opens = refl

example_few : opens 1 (placed 1 (words (codes "open 2 1 1"))) ≡ Err (Count 1)
example_few = refl
