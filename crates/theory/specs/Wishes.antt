-- When a wish is formed, and when a key meets it. Assumes nothing.
use Rattle.std.specs.Prelude.{◌≡◌, ℕ, ◌^◌, ◌<◌, ◌≤◌, Bool, true, false, ◌&&◌, ◌≢◌, ◌↔◌, List, [], ◌∷◌, length, take, ◌==◌, nat_le, nat_lt, refl}
use Rattle.std.specs.Int.Count.{ones, ones_in}
use Rattle.theory.specs.declared.wish.Wish.{Wish}
use Rattle.theory.specs.declared.wish.Wish.TheVariants.{Clear, Apart, Fine, Word, Least}
use Rattle.theory.specs.Words.{alias, stratum}

-- a main effect or an interaction of n factors
abbrev pub Low : ℕ → ℕ → Type 0
Low n e = (e < 2 ^ n) × (1 ≤ ones e) × (ones e ≤ 2)

-- The numbers of a wish are as its kind asks, where there are n factors.
abbrev pub Formed : ℕ → Wish → Type 0
Formed n (Clear e) = (e < 2 ^ n) × (ones e ≡ 2)
Formed n (Apart e f) = (e < f) × Low n e × Low n f
Formed n (Fine e) = Low n e
Formed n (Word e) = (e < 2 ^ n) × (3 ≤ ones e)
Formed n (Least r) = (3 ≤ r) × (r ≤ 10)

-- The same as tests.
abbrev pub low : ℕ → ℕ → Bool
low n e = nat_lt e (2 ^ n) && (nat_le 1 (ones e) && nat_le (ones e) 2)

abbrev pub formed : ℕ → Wish → Bool
formed n (Clear e) = nat_lt e (2 ^ n) && ones e == 2
formed n (Apart e f) = nat_lt e f && (low n e && low n f)
formed n (Fine e) = low n e
formed n (Word e) = nat_lt e (2 ^ n) && nat_le 3 (ones e)
formed n (Least r) = nat_le 3 r && nat_le r 10

abbrev pub FormedFact : Type 0
FormedFact = (n : ℕ) (wish : Wish) → (formed n wish ≡ true) ↔ Formed n wish

-- A key meets a wish.
abbrev pub Meets : List ℕ → List ℕ → Wish → Type 0
-- no effect of the chain of e is a main effect, and no other an interaction
Meets ws cs (Clear e) = (f : ℕ) → f < 2 ^ length cs → alias cs f ≡ alias cs e → (ones f ≢ 1) × (ones f ≡ 2 → f ≡ e)
Meets ws cs (Apart e f) = alias cs e ≢ alias cs f
-- the stratum is that of the last layer, the subplots
Meets ws cs (Fine e) = stratum ws (alias cs e) ≡ length ws
Meets ws cs (Word e) = alias cs e ≡ 0
-- no defining word is shorter than r
Meets ws cs (Least r) = (f : ℕ) → f < 2 ^ length cs → f ≢ 0 → alias cs f ≡ 0 → r ≤ ones f

-- A wish of the first m factors is met by a key only where it is met by the key's first m columns. So where these do not
-- meet it, no key that begins with them does.
abbrev pub FrontFact : Type 0
FrontFact = (ws : List ℕ) (m : ℕ) (cs : List ℕ) (wish : Wish) → m ≤ length cs → Formed m wish → Meets ws cs wish → Meets ws (take m cs) wish

-- Apq is a defining word of (1, 4, 5, 6), and pq is not fine there
example_word : Meets (2 ∷ 1 ∷ []) (1 ∷ 4 ∷ 5 ∷ 6 ∷ []) (Word 7)
example_word = refl

example_plain : stratum (2 ∷ 1 ∷ []) (alias (1 ∷ 4 ∷ 5 ∷ 6 ∷ []) 6) ≡ 1
example_plain = refl

-- of four factors pq, number 6, may be asked to be clear, and Apq, number 7, not
example_formed : formed 4 (Clear 6) ≡ true
unfolding ones ones_in
example_formed = refl

example_unformed : formed 4 (Clear 7) ≡ false
unfolding ones ones_in
example_unformed = refl
