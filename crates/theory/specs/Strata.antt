-- The strata of two layers by name. Assumes nothing.
use Rattle.std.specs.Prelude.{◌≡◌, ℕ, zero, suc, [], ◌∷◌, refl}
use Rattle.theory.specs.Words.{stratum}
use Rattle.theory.specs.declared.stratum.Stratum.{Stratum}
use Rattle.theory.specs.declared.stratum.Stratum.TheVariants.{Mean, WholePlots, Subplots}

-- the layer of a stratum, counted from 1; 0 for the mean
abbrev pub stratum_number : Stratum → ℕ
stratum_number Mean = 0
stratum_number WholePlots = 1
stratum_number Subplots = 2

-- the stratum of a layer, where there are two
abbrev pub stratum_named : ℕ → Stratum
stratum_named zero = Mean
stratum_named (suc zero) = WholePlots
stratum_named (suc (suc l)) = Subplots

-- Two whole-plot and one subplot unit factors: the word 2 is whole-plot, the word 7 subplot.
example_whole : stratum_named (stratum (2 ∷ 1 ∷ []) 2) ≡ WholePlots
example_whole = refl

example_sub : stratum_named (stratum (2 ∷ 1 ∷ []) 7) ≡ Subplots
example_sub = refl
