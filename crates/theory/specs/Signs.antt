-- What the signs of a key's effects satisfy. Assumes nothing.
use Rattle.std.specs.Prelude.{◌≡◌, ℕ, ◌+◌, ◌*◌, ◌^◌, ◌<◌, ◌≤◌, Bool, true, false, List, [], ◌∷◌, ◌++◌, length, refl}
use Rattle.std.specs.Int.Count.{ones, ones_in}
use Rattle.std.specs.List.{ContainsAt as Has}
use Rattle.theory.specs.declared.sign.Sign.{Sign}
use Rattle.theory.specs.declared.sign.Sign.TheVariants.{Plus, Minus}
use Rattle.theory.specs.Words.{total, alias, stratum, sign}
use Rattle.theory.specs.Chains.{chain}
use Rattle.theory.specs.Tallies.{count}

-- the sign of the effect e in run u
abbrev pub sign_in : List ℕ → ℕ → ℕ → Sign
sign_in cs e u = sign (alias cs e) u

abbrev pub same_sign : Sign → Sign → Bool
same_sign Plus Plus = true
same_sign Plus Minus = false
same_sign Minus Plus = false
same_sign Minus Minus = true

-- one chain holds both effects
abbrev pub Together : List ℕ → ℕ → ℕ → Type 0
Together cs e f = (d : ℕ) × Has (chain cs d) e × Has (chain cs d) f

-- Two effects are alike in every run exactly when one chain holds both, otherwise in exactly half of the runs.
pub record AlikeOrHalf (ws cs : List ℕ) (e f : ℕ) : Type 0 where
  pub alike : Together cs e f → (u : ℕ) → u < 2 ^ total ws → sign_in cs e u ≡ sign_in cs f u
  pub only : ((u : ℕ) → u < 2 ^ total ws → sign_in cs e u ≡ sign_in cs f u) → Together cs e f
  pub half : (Together cs e f → ⊥) → 2 * count (λ u. same_sign (sign_in cs e u) (sign_in cs f u)) (2 ^ total ws) ≡ 2 ^ total ws

abbrev pub Halves : List ℕ → List ℕ → Type 0
Halves ws cs = (e f : ℕ) → e < 2 ^ length cs → f < 2 ^ length cs → AlikeOrHalf ws cs e f

-- The first layers us make plots, in which the other layers vs vary: the t-th run of plot p.
abbrev pub run_number : List ℕ → ℕ → ℕ → ℕ
run_number us p t = p + 2 ^ total us * t

-- Within plot p an effect has one sign exactly when its stratum is the mean or one of the first layers, otherwise each
-- sign in exactly half of the plot's runs.
pub record OneOrHalf (us vs cs : List ℕ) (e p : ℕ) : Type 0 where
  pub one : stratum (us ++ vs) (alias cs e) ≤ length us → (t : ℕ) → t < 2 ^ total vs → sign_in cs e (run_number us p t) ≡ sign_in cs e p
  pub only : ((t : ℕ) → t < 2 ^ total vs → sign_in cs e (run_number us p t) ≡ sign_in cs e p) → stratum (us ++ vs) (alias cs e) ≤ length us
  pub half : length us < stratum (us ++ vs) (alias cs e) → (g : Sign) → 2 * count (λ t. same_sign g (sign_in cs e (run_number us p t))) (2 ^ total vs) ≡ 2 ^ total vs

abbrev pub PlotHalves : List ℕ → List ℕ → List ℕ → Type 0
PlotHalves us vs cs = (e p : ℕ) → p < 2 ^ total us → OneOrHalf us vs cs e p

-- pr and A are alike in half of the eight runs; pr keeps its sign in whole plot 2, runs 2 and 6
example_half : count (λ u. same_sign (sign_in (1 ∷ 4 ∷ 5 ∷ 6 ∷ []) 10 u) (sign_in (1 ∷ 4 ∷ 5 ∷ 6 ∷ []) 1 u)) 8 ≡ 4
unfolding ones ones_in
example_half = refl

example_plot : sign_in (1 ∷ 4 ∷ 5 ∷ 6 ∷ []) 10 (run_number (2 ∷ []) 2 1) ≡ sign_in (1 ∷ 4 ∷ 5 ∷ 6 ∷ []) 10 2
unfolding ones ones_in
example_plot = refl
