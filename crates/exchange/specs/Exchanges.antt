-- Two factors exchanged: in a key, in an effect, in a wish. Assumes nothing.
use Rattle.std.specs.Prelude.{◌≡◌, ℕ, zero, suc, ◌+◌, ◌-◌, ◌*◌, ◌/◌, ◌%◌, cond, List, [], ◌∷◌, nat_lt, refl}
use Rattle.std.specs.List.{ContainsAt as Has}
use Rattle.theory.specs.declared.wish.Wish.{Wish}
use Rattle.theory.specs.declared.wish.Wish.TheVariants.{Clear, Apart, Fine, Word, Least}

-- ---- two neighbours, factors i and i + 1, counted from 0

-- their columns change places
abbrev pub turned : ℕ → List ℕ → List ℕ
turned i [] = []
turned zero (c ∷ []) = c ∷ []
turned zero (c ∷ d ∷ cs) = d ∷ c ∷ cs
turned (suc i) (c ∷ cs) = c ∷ turned i cs

-- the effect with the one for the other: bits i and i + 1 change places
abbrev pub effect_turned : ℕ → ℕ → ℕ
effect_turned zero e = (e / 2 / 2 * 2 + e % 2) * 2 + e / 2 % 2
effect_turned (suc i) e = effect_turned i (e / 2) * 2 + e % 2

-- the wish that two effects be apart, the smaller number first
abbrev pub apart_in_order : ℕ → ℕ → Wish
apart_in_order e f = cond (nat_lt e f) (Apart e f) (Apart f e)

-- the wish with the one for the other
abbrev pub wish_turned : ℕ → Wish → Wish
wish_turned i (Clear e) = Clear (effect_turned i e)
wish_turned i (Apart e f) = apart_in_order (effect_turned i e) (effect_turned i f)
wish_turned i (Fine e) = Fine (effect_turned i e)
wish_turned i (Word e) = Word (effect_turned i e)
wish_turned i (Least r) = Least r

-- ---- any two, factors i and j with i < j

-- As a chain of neighbours, where there are so many factors in between: the first two, then the second and the last, then
-- the first two again.
abbrev pub over : ℕ → ℕ → List ℕ → List ℕ
over zero i cs = turned i cs
over (suc between) i cs = turned i (over between (suc i) (turned i cs))

abbrev pub wish_over : ℕ → ℕ → Wish → Wish
wish_over zero i wish = wish_turned i wish
wish_over (suc between) i wish = wish_turned i (wish_over between (suc i) (wish_turned i wish))

abbrev pub exchanged : ℕ → ℕ → List ℕ → List ℕ
exchanged i j cs = over (j - suc i) i cs

abbrev pub wish_exchanged : ℕ → ℕ → Wish → Wish
wish_exchanged i j wish = wish_over (j - suc i) i wish

-- the wishes do not tell the two factors apart: each of them with the two exchanged is one of them
abbrev pub Blind : ℕ → ℕ → List Wish → Type 0
Blind i j wishes = (wish : Wish) → Has wishes wish → Has wishes (wish_exchanged i j wish)

-- With the factors A p q r: p and r, factors 1 and 3, exchanged in (1, 4, 5, 6); in the wish that pq, number 6, be fine,
-- which becomes that qr, number 12, be fine; and in the wish that Ap be apart from qr, which becomes that pq be apart from Ar.
example_key : exchanged 1 3 (1 ∷ 4 ∷ 5 ∷ 6 ∷ []) ≡ 1 ∷ 6 ∷ 5 ∷ 4 ∷ []
example_key = refl

example_fine : wish_exchanged 1 3 (Fine 6) ≡ Fine 12
example_fine = refl

example_apart : wish_exchanged 1 3 (Apart 3 12) ≡ Apart 6 9
example_apart = refl
