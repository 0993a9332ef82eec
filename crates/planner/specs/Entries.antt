-- The calls to a planner, each with its answer. Assumes nothing.
use Rattle.std.specs.Prelude.{ℕ, List, Option, Result}
use Rattle.theory.specs.declared.refusal.Refusal.{Refusal}
use Rattle.theory.specs.declared.sign.Sign.{Sign}
use Rattle.theory.specs.declared.stratum.Stratum.{Stratum}
use Rattle.theory.specs.declared.tally.Tally.{Tally}
use Rattle.key.specs.declared.Key.{Key}
use Rattle.planner.specs.declared.effect.Effect.{Effect}

-- a question of the standing plan; one that fills a buffer has the buffer before and after
pub data Asked : Type 0 where
  key : (out : List ℕ) → Result ℕ Refusal → (out' : List ℕ) → Asked
  sign : (e u : ℕ) → Result Sign Refusal → Asked
  alias : (e : ℕ) → Result (ℕ × Stratum) Refusal → Asked
  chain : (e : ℕ) (out : List ℕ) → Result ℕ Refusal → (out' : List ℕ) → Asked
  tally : Result Tally Refusal → Asked
  resolution : Result (Option ℕ) Refusal → Asked
  layout : (out : List ℕ) → Result ℕ Refusal → (out' : List ℕ) → Asked

-- A call since the last granted opening, with its answer. A wish is given by its kind and two numbers; a granted finding
-- has the key that it put in place.
pub data Entry : Type 0 where
  add : (kind e f : ℕ) → Result Effect Refusal → Entry
  strike : (kind e f : ℕ) → Result Effect Refusal → Entry
  find : Result Key Refusal → Entry
  ask : Asked → Entry
