-- An effect with two factors exchanged, bit by bit. Assumes nothing.
use Rattle.std.specs.Prelude.{◌≡◌, ℕ, ◌≢◌}
use Rattle.std.specs.Int.{bit_at}

-- The bits i and j of the effect e are the other way round in x, and every other bit is the same.
pub record IsExchanged (i j e x : ℕ) : Type 0 where
  pub first : bit_at x i ≡ bit_at e j
  pub second : bit_at x j ≡ bit_at e i
  pub others : (k : ℕ) → k ≢ i → k ≢ j → bit_at x k ≡ bit_at e k
