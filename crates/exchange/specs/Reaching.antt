-- What columns leave open. Assumes nothing.
use Rattle.std.specs.Prelude.{ℕ, List, [], ◌∷◌}
use Rattle.theory.specs.Keys.{Open, Next}

-- The columns are read one after another, and take what is open from os to qs.
pub data Reaches (ws : List ℕ) : List ℕ → List ℕ → List ℕ → Type 0 where
  done : {os : List ℕ} → Reaches ws os [] os
  stays : {os cs qs : List ℕ} {c : ℕ} → Open ws os c → Reaches ws os cs qs → Reaches ws os (c ∷ cs) qs
  opens : {os ps cs qs : List ℕ} {c : ℕ} → Next ws os c ps → Reaches ws ps cs qs → Reaches ws os (c ∷ cs) qs
