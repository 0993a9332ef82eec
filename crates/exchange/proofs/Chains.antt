-- Two factors exchanged over those in between: what holds of neighbours holds of them.
use Rattle.std.proofs.Common.{◌≡◌, ℕ, zero, suc, ◌+◌, ◌<◌, ◌≤◌, List, [], ◌∷◌, ◌++◌, length, get_or, drop, set, sym, refl, ap, ◌∙◌, subst, inl, inr, arith}
use Rattle.theory.specs.declared.wish.Wish.{Wish}
use Rattle.theory.specs.Keys.{Sound}
use Rattle.theory.specs.Tallies.{tally}
use Rattle.theory.specs.Wishes.{Meets}
use Rattle.exchange.specs.Dictionary.{Before}
use Rattle.exchange.specs.Exchanges.{turned, wish_turned, over, wish_over}
use Rattle.exchange.proofs.Effects.{length_turned}
use Rattle.exchange.proofs.Tallies.{tally_turned}
use Rattle.exchange.proofs.Wishes.{meets_turned}
use Rattle.exchange.proofs.Keys.{sound_turned}

pub length_over : (between i : ℕ) (cs : List ℕ) → length (over between i cs) ≡ length cs
length_over zero i cs = length_turned i cs
length_over (suc between) i cs = length_turned i (over between (suc i) (turned i cs)) ∙ length_over between (suc i) (turned i cs) ∙ length_turned i cs

-- ---- tally, wishes, soundness
pub tally_over : (ws : List ℕ) (between i : ℕ) (cs : List ℕ) → suc (between + i) < length cs → tally ws (over between i cs) ≡ tally ws cs
tally_over ws zero i cs h = tally_turned ws i cs (omega arith)
tally_over ws (suc between) i cs h =
    let first = turned i cs in
    let second = over between (suc i) first in
    let size = length_turned i cs in
    tally_turned ws i second (omega (arith, length_over between (suc i) first))
    ∙ tally_over ws between (suc i) first (omega arith)
    ∙ tally_turned ws i cs (omega arith)

pub meets_over : (ws : List ℕ) (between i : ℕ) (cs : List ℕ) → suc (between + i) < length cs → (wish : Wish) → Meets ws cs (wish_over between i wish) → Meets ws (over between i cs) wish
meets_over ws zero i cs h wish met = meets_turned ws i cs (omega arith) wish met
meets_over ws (suc between) i cs h wish met =
    let first = turned i cs in
    let second = over between (suc i) first in
    let size = length_turned i cs in
    meets_turned ws i second (omega (arith, length_over between (suc i) first)) wish
    (meets_over ws between (suc i) first (omega arith) (wish_turned i wish)
    (meets_turned ws i cs (omega arith) (wish_over between (suc i) (wish_turned i wish)) met))

pub sound_over : (ws ts : List ℕ) (between i : ℕ) (cs : List ℕ) → suc (between + i) < length cs → ((k : ℕ) → i ≤ k → k ≤ between + i → get_or ts k 0 ≡ get_or ts (suc k) 0)
    → Sound ws ts cs → Sound ws ts (over between i cs)
sound_over ws ts zero i cs h alike key = sound_turned ws ts i cs (omega arith) (alike i (omega arith) (omega arith)) key
sound_over ws ts (suc between) i cs h alike key =
    let first = turned i cs in
    let second = over between (suc i) first in
    let size = length_turned i cs in
    let same = alike i (omega arith) (omega arith) in
    sound_turned ws ts i second (omega (arith, length_over between (suc i) first)) same
    (sound_over ws ts between (suc i) first (omega arith) (λ k l m. alike k (omega arith) (omega arith))
    (sound_turned ws ts i cs (omega arith) same key))

-- ---- which columns change places

-- the columns behind both stay
drop_turned : (i k : ℕ) (cs : List ℕ) → suc i < k → drop k (turned i cs) ≡ drop k cs
drop_turned zero k [] h = refl
drop_turned (suc i) k [] h = refl
drop_turned zero k (c ∷ []) h = refl
drop_turned zero zero (c ∷ d ∷ cs) h = absurd (omega arith)
drop_turned zero (suc zero) (c ∷ d ∷ cs) h = absurd (omega arith)
drop_turned zero (suc (suc k)) (c ∷ d ∷ cs) h = refl
drop_turned (suc i) zero (c ∷ cs) h = absurd (omega arith)
drop_turned (suc i) (suc k) (c ∷ cs) h = drop_turned i k cs (omega arith)

pub drop_over : (between i k : ℕ) (cs : List ℕ) → suc (between + i) < k → drop k (over between i cs) ≡ drop k cs
drop_over zero i k cs h = drop_turned i k cs (omega arith)
drop_over (suc between) i k cs h =
    drop_turned i k (over between (suc i) (turned i cs)) (omega arith)
    ∙ drop_over between (suc i) k (turned i cs) (omega arith)
    ∙ drop_turned i k cs (omega arith)

-- and so do those before both
over_behind : (between i c : ℕ) (cs : List ℕ) → over between (suc i) (c ∷ cs) ≡ c ∷ over between i cs
over_behind zero i c cs = refl
over_behind (suc between) i c cs = ap (turned (suc i)) (over_behind between (suc i) c (turned i cs))

-- the first column goes to the end, and the last comes first
over_first : (between : ℕ) (c d : ℕ) (cs rest : List ℕ) → length cs ≡ between → over between 0 (c ∷ cs ++ d ∷ rest) ≡ d ∷ cs ++ c ∷ rest
over_first zero c d [] rest e = refl
over_first zero c d (x ∷ cs) rest e = absurd (omega arith)
over_first (suc between) c d [] rest e = absurd (omega arith)
over_first (suc between) c d (x ∷ cs) rest e =
    ap (turned 0) (over_behind between 0 x (c ∷ cs ++ d ∷ rest) ∙ ap (λ (xs : List ℕ). x ∷ xs) (over_first between c d cs rest (omega arith)))

pub over_push : (between i : ℕ) (cs : List ℕ) (d : ℕ) (rest : List ℕ) → suc (between + i) ≡ length cs → over between i (cs ++ d ∷ rest) ≡ set cs i d ++ get_or cs i 0 ∷ rest
over_push between i [] d rest e = absurd (omega arith)
over_push between zero (c ∷ cs) d rest e = over_first between c d cs rest (omega arith)
over_push between (suc i) (c ∷ cs) d rest e = over_behind between i c (cs ++ d ∷ rest) ∙ ap (λ (xs : List ℕ). c ∷ xs) (over_push between i cs d rest (omega arith))

-- ---- earlier
head_over : (between c : ℕ) (cs : List ℕ) → between < length cs → get_or (over between 0 (c ∷ cs)) 0 0 ≡ get_or cs between 0
head_over between c [] h = absurd (omega arith)
head_over zero c (d ∷ cs) h = refl
head_over (suc between) c (d ∷ cs) h = ap (λ (xs : List ℕ). get_or (turned 0 xs) 0 0) (over_behind between 0 d (c ∷ cs)) ∙ second d (over between 0 (c ∷ cs)) (omega (arith, length_over between 0 (c ∷ cs))) ∙ head_over between c cs (omega arith)
  where
    second : (x : ℕ) (xs : List ℕ) → 0 < length xs → get_or (turned 0 (x ∷ xs)) 0 0 ≡ get_or xs 0 0
    second x [] l = absurd (omega arith)
    second x (y ∷ xs) l = refl

before_head : (xs : List ℕ) (c : ℕ) (cs : List ℕ) → 0 < length xs → get_or xs 0 0 < c → Before xs (c ∷ cs)
before_head [] c cs h l = absurd (omega arith)
before_head (x ∷ xs) c cs h l = inl l

pub earlier_over : (between i : ℕ) (cs : List ℕ) → suc (between + i) < length cs → get_or cs (suc (between + i)) 0 < get_or cs i 0 → Before (over between i cs) cs
earlier_over between i [] h l = absurd (omega arith)
earlier_over between zero (c ∷ cs) h l =
    before_head (over between 0 (c ∷ cs)) c cs (omega (arith, length_over between 0 (c ∷ cs)))
    (subst (λ (x : ℕ). x < c) (sym (head_over between c cs (omega arith))) (subst (λ (n : ℕ). get_or cs n 0 < c) (omega arith) l))
earlier_over between (suc i) (c ∷ cs) h l =
    subst (λ (xs : List ℕ). Before xs (c ∷ cs)) (sym (over_behind between i c cs))
    (inr (refl, earlier_over between i cs (omega arith) (subst (λ (n : ℕ). get_or (c ∷ cs) n 0 < get_or cs i 0) {x = suc (between + suc i)} {y = suc (suc (between + i))} (omega arith) l)))
