-- Reading on from what columns leave open.
use Rattle.std.proofs.Common.{◌≡◌, ℕ, List, ◌∷◌, ◌++◌, refl, ap, subst}
use Rattle.theory.specs.Keys.{Next, here, above, Reads, stays, opens}
use Rattle.theory.proofs.Opens.{next_apart}
use Rattle.exchange.specs.Reaching.{Reaches, done as there, stays as staying, opens as opening}

-- a column opens one thing only
next_unique : {ws os ps qs : List ℕ} {c : ℕ} → Next ws os c ps → Next ws os c qs → qs ≡ ps
next_unique (here l e o) (here l' e' o') = refl
next_unique (here l e o) (above e' n) = absurd (next_apart n o)
next_unique (above e n) (here l e' o) = absurd (next_apart n o)
next_unique (above {w} {a} e n) (above e' n') = ap (λ (p : List ℕ). a ∷ p) (next_unique n n')

module _ (ws : List ℕ) where
  pub reads_on : {os cs qs rest : List ℕ} → Reaches ws os cs qs → Reads ws qs rest → Reads ws os (cs ++ rest)
  reads_on there r = r
  reads_on (staying o f) r = stays o (reads_on f r)
  reads_on (opening n f) r = opens n (reads_on f r)

  pub reads_after : {os cs qs rest : List ℕ} → Reaches ws os cs qs → Reads ws os (cs ++ rest) → Reads ws qs rest
  reads_after there r = r
  reads_after (staying o f) (stays o' r) = reads_after f r
  reads_after (staying o f) (opens n r) = absurd (next_apart n o)
  reads_after (opening n f) (stays o r) = absurd (next_apart n o)
  reads_after {rest = rest} (opening {cs = cs} n f) (opens n' r) = reads_after f (subst (λ (q : List ℕ). Reads ws q (cs ++ rest)) (next_unique n n') r)
