-- Counts of effects by length and alias stand when two neighbouring factors are turned round, and so does the tally.
use Rattle.std.proofs.Common.{◌≡◌, ℕ, zero, suc, ◌+◌, ◌*◌, ◌/◌, ◌%◌, ◌^◌, ◌<◌, Bool, cond, ◌&&◌, eqb, List, length, sym, ap, ◌∙◌, ap₂, pow-suc, arith}
use lib.Count.{ones}
use Rattle.theory.specs.Words.{total, alias, stratum}
use Rattle.theory.specs.Tallies.{count, members, free, free_pairs, free_squares, tally}
use Rattle.theory.proofs.Counts.{count_same, count_twice}
use Rattle.theory.proofs.Sums.{sum_below}
use Rattle.exchange.specs.Exchanges.{turned, effect_turned}
use Rattle.exchange.proofs.Effects.{length_turned, ones_turned, alias_turned}

-- even and odd numbers apart
count_half : (p : ℕ → Bool) (n : ℕ) → count p (2 ^ suc n) ≡ count (λ u. p (u * 2)) (2 ^ n) + count (λ u. p (u * 2 + 1)) (2 ^ n)
count_half p n = ap (count p) (pow-suc 2 n) ∙ count_twice p (2 ^ n)

-- a count of the numbers below 2 ^ n stands when two bits of each change places
pub count_turned : (i n : ℕ) (p : ℕ → Bool) → suc i < n → count (λ e. p (effect_turned i e)) (2 ^ n) ≡ count p (2 ^ n)
count_turned i zero p h = absurd (omega arith)
count_turned zero (suc zero) p h = absurd (omega arith)
-- of the four quarters, by their last two bits, two change places
count_turned zero (suc (suc n)) p h =
    let q : ℕ → Bool = λ e. p (effect_turned zero e) in
    let a = count_half q (suc n) in
    let b = count_half (λ u. q (u * 2)) n in
    let c = count_half (λ u. q (u * 2 + 1)) n in
    let a' = count_half p (suc n) in
    let b' = count_half (λ u. p (u * 2)) n in
    let c' = count_half (λ u. p (u * 2 + 1)) n in
    let m00 : count (λ u. q (u * 2 * 2)) (2 ^ n) ≡ count (λ u. p (u * 2 * 2)) (2 ^ n) = count_same (λ u. q (u * 2 * 2)) (λ u. p (u * 2 * 2)) (2 ^ n) (λ u _. ap p (omega arith)) in
    let m01 : count (λ u. q ((u * 2 + 1) * 2)) (2 ^ n) ≡ count (λ u. p (u * 2 * 2 + 1)) (2 ^ n) = count_same (λ u. q ((u * 2 + 1) * 2)) (λ u. p (u * 2 * 2 + 1)) (2 ^ n) (λ u _. ap p (omega arith)) in
    let m10 : count (λ u. q (u * 2 * 2 + 1)) (2 ^ n) ≡ count (λ u. p ((u * 2 + 1) * 2)) (2 ^ n) = count_same (λ u. q (u * 2 * 2 + 1)) (λ u. p ((u * 2 + 1) * 2)) (2 ^ n) (λ u _. ap p (omega arith)) in
    let m11 : count (λ u. q ((u * 2 + 1) * 2 + 1)) (2 ^ n) ≡ count (λ u. p ((u * 2 + 1) * 2 + 1)) (2 ^ n) = count_same (λ u. q ((u * 2 + 1) * 2 + 1)) (λ u. p ((u * 2 + 1) * 2 + 1)) (2 ^ n) (λ u _. ap p (omega arith)) in
    omega arith
count_turned (suc i) (suc n) p h =
    count_half (λ e. p (effect_turned (suc i) e)) n
    ∙ ap₂ (λ (x y : ℕ). x + y)
    (count_same (λ u. p (effect_turned (suc i) (u * 2))) (λ u. p (effect_turned i u * 2)) (2 ^ n) (λ u _. ap p (even u)) ∙ count_turned i n (λ u. p (u * 2)) (omega arith))
    (count_same (λ u. p (effect_turned (suc i) (u * 2 + 1))) (λ u. p (effect_turned i u * 2 + 1)) (2 ^ n) (λ u _. ap p (odd u)) ∙ count_turned i n (λ u. p (u * 2 + 1)) (omega arith))
    ∙ sym (count_half p n)
  where
    even : (u : ℕ) → effect_turned (suc i) (u * 2) ≡ effect_turned i u * 2
    even u =
        let d : u * 2 / 2 ≡ u = omega arith in
        let m : u * 2 % 2 ≡ 0 = omega arith in
        ap₂ (λ (x y : ℕ). effect_turned i x * 2 + y) d m ∙ omega arith

    odd : (u : ℕ) → effect_turned (suc i) (u * 2 + 1) ≡ effect_turned i u * 2 + 1
    odd u =
        let d : (u * 2 + 1) / 2 ≡ u = omega arith in
        let m : (u * 2 + 1) % 2 ≡ 1 = omega arith in
        ap₂ (λ (x y : ℕ). effect_turned i x * 2 + y) d m

module _ (ws : List ℕ) (i : ℕ) (cs : List ℕ) (h : suc i < length cs) where
  -- how many effects pass a test of their length and alias
  effects_turned : (p : ℕ → ℕ → Bool) → count (λ e. p (ones e) (alias (turned i cs) e)) (2 ^ length (turned i cs)) ≡ count (λ e. p (ones e) (alias cs e)) (2 ^ length cs)
  effects_turned p =
      ap (λ (n : ℕ). count (λ e. p (ones e) (alias (turned i cs) e)) (2 ^ n)) (length_turned i cs)
      ∙ sym (count_turned i (length cs) (λ e. p (ones e) (alias (turned i cs) e)) h)
      ∙ count_same (λ e. p (ones (effect_turned i e)) (alias (turned i cs) (effect_turned i e))) (λ e. p (ones e) (alias cs e)) (2 ^ length cs)
      (λ e _. ap₂ p (ones_turned i e) (alias_turned i cs e h))

  members_turned : (j v : ℕ) → members (turned i cs) j v ≡ members cs j v
  members_turned j v = effects_turned (λ l a. eqb l j && eqb a v)

  free_turned : (l v : ℕ) → free ws (turned i cs) l v ≡ free ws cs l v
  free_turned l v = ap (λ (m : ℕ). eqb (stratum ws v) l && eqb m 0) (members_turned 1 v)

  pairs_turned : (l : ℕ) → free_pairs ws (turned i cs) l ≡ free_pairs ws cs l
  pairs_turned l =
      effects_turned (λ j v. eqb j 2 && free ws (turned i cs) l v)
      ∙ count_same (λ e. eqb (ones e) 2 && free ws (turned i cs) l (alias cs e)) (λ e. eqb (ones e) 2 && free ws cs l (alias cs e)) (2 ^ length cs)
      (λ e _. ap (λ (b : Bool). eqb (ones e) 2 && b) (free_turned l (alias cs e)))

  squares_turned : (l : ℕ) → free_squares ws (turned i cs) l ≡ free_squares ws cs l
  squares_turned l =
      sum_below (λ v. cond (free ws (turned i cs) l v) (members (turned i cs) 2 v * members (turned i cs) 2 v) 0) (λ v. cond (free ws cs l v) (members cs 2 v * members cs 2 v) 0) (2 ^ total ws)
      (λ v _. ap₂ (λ (b : Bool) (m : ℕ). cond b (m * m) 0) (free_turned l v) (members_turned 2 v))

  pub tally_turned : tally ws (turned i cs) ≡ tally ws cs
  unfolding tally
  tally_turned =
      cc (
        members_turned 3 0,
        members_turned 4 0,
        members_turned 5 0,
        members_turned 6 0,
        members_turned 7 0,
        members_turned 8 0,
        members_turned 9 0,
        members_turned 10 0,
        pairs_turned 1,
        pairs_turned 2,
        squares_turned 1,
        squares_turned 2,
      )
