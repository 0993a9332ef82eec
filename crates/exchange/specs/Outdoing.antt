-- When a key is outdone by its own exchange: an earlier key that is as good. Assumes nothing.
use Rattle.std.specs.Prelude.{◌≡◌, ℕ, suc, ◌<◌, ◌≤◌, List, [], ◌∷◌, length, take, slice_index, refl}
use Rattle.std.proofs.Common.{subst, le_refl, arith}
use Rattle.std.specs.List.{AllByRecursion}
use Rattle.theory.specs.declared.wish.Wish.{Wish}
use Rattle.theory.specs.Keys.{Next, here, above, none, Standard}
use Rattle.theory.specs.Tallies.{tally}
use Rattle.theory.specs.Wishes.{Meets}
use Rattle.exchange.specs.Dictionary.{Before}
use Rattle.exchange.specs.Exchanges.{exchanged, Blind}
use Rattle.exchange.specs.Reaching.{Reaches, done, stays, opens}

-- Factor i comes before factor j, all factors from i to j are of one layer, and the wishes do not tell i and j apart. The list
-- ts has the layer of each factor.
pub record Exchangeable (ts : List ℕ) (wishes : List Wish) (i j : ℕ) : Type 0 where
  pub order : i < j
  pub within : j < length ts
  pub alike : (k : ℕ) → i ≤ k → k < j → slice_index ts k ≡ slice_index ts (suc k)
  pub blind : Blind i j wishes

-- the first columns, up to that of factor j, can be read with those of i and j exchanged as well, and leave the same open
abbrev pub ReadAlike : List ℕ → List ℕ → ℕ → ℕ → Type 0
ReadAlike ws cs i j = (os : List ℕ) × Reaches ws (none ws) (take (suc j) cs) os × Reaches ws (none ws) (take (suc j) (exchanged i j cs)) os

-- The standard key ds meets the wishes, has the tally of cs, and comes before it.
pub record Outdoes (ws ts : List ℕ) (wishes : List Wish) (ds cs : List ℕ) : Type 0 where
  pub standard : Standard ws ts ds
  pub meets : AllByRecursion (Meets ws ds) wishes
  pub level : tally ws ds ≡ tally ws cs
  pub earlier : Before ds cs

-- Where factors i and j may be exchanged, column j is the smaller, and the columns up to it are read alike, a standard key that
-- meets the wishes is outdone by the one with these two columns exchanged. So it is never the first of the best.
abbrev pub ExchangeFact : Type 0
ExchangeFact =
    (ws ts : List ℕ) (wishes : List Wish) (cs : List ℕ) (i j : ℕ)
    → Standard ws ts cs → AllByRecursion (Meets ws cs) wishes → Exchangeable ts wishes i j
    → slice_index cs j < slice_index cs i → ReadAlike ws cs i j
    → Outdoes ws ts wishes (exchanged i j cs) cs

-- Under two whole-plot and one subplot unit factors, one whole-plot and three subplot factors: without wishes q and r may be
-- exchanged, and the columns of (1, 4, 6, 5) are read alike as (1, 4, 5, 6).
example_exchangeable : Exchangeable (1 ∷ 2 ∷ 2 ∷ 2 ∷ []) [] 2 3
example_exchangeable = record {
  order = le_refl 3;
  within = le_refl 4;
  alike = λ k l m. let is : 2 ≡ k = omega arith in subst (λ (n : ℕ). ◌≡◌ {A = ℕ} (slice_index (1 ∷ 2 ∷ 2 ∷ 2 ∷ []) n) (slice_index (1 ∷ 2 ∷ 2 ∷ 2 ∷ []) (suc n))) is refl;
  blind = λ wish has. let none = has.1 in absurd (omega arith);
}

example_alike : ReadAlike (2 ∷ 1 ∷ []) (1 ∷ 4 ∷ 6 ∷ 5 ∷ []) 2 3
example_alike =
    let w1 : Next (2 ∷ 1 ∷ []) (0 ∷ 0 ∷ []) 1 (1 ∷ 0 ∷ []) = here (omega arith) refl (omega arith, refl) in
    let s1 : Next (2 ∷ 1 ∷ []) (1 ∷ 0 ∷ []) 4 (1 ∷ 1 ∷ []) = above refl (here (omega arith) refl refl) in
    let w2 : Next (2 ∷ 1 ∷ []) (1 ∷ 1 ∷ []) 6 (2 ∷ 1 ∷ []) = here (omega arith) refl (omega arith, refl) in (
      2 ∷ 1 ∷ [],
      opens w1 (opens s1 (opens w2 (stays (omega arith, (omega arith, refl)) done))),
      opens w1 (opens s1 (stays (omega arith, (omega arith, refl)) (opens w2 done))),
    )
