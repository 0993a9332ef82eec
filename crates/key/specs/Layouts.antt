-- The text of a layout. Assumes nothing.
--
-- There are w whole-plot and s subplot unit factors, and the columns cs. Whole plots p and subplots t are counted from 0
-- here, and from 1 in the text.
use Rattle.std.specs.Prelude.{◌≡◌, ℕ, ◌+◌, ◌^◌, List, [], ◌∷◌, ◌++◌, map, length, codes, decimal, refl}
use Rattle.std.specs.Int.Count.{ones, ones_in}
use Rattle.std.specs.List.{range_with_len, flat_map}
use Rattle.std.specs.Fmt.{digits}
use Rattle.theory.specs.declared.sign.Sign.{Sign}
use Rattle.theory.specs.declared.sign.Sign.TheVariants.{Plus, Minus}
use Rattle.theory.specs.Signs.{sign_in, run_number}

-- '+' and '-'
abbrev pub sign_code : Sign → ℕ
sign_code Plus = 43
sign_code Minus = 45

-- the sign of each factor in run u, in factor order: that of its main effect, whose number is 2 ^ i
abbrev pub signs_text : List ℕ → ℕ → List ℕ
signs_text cs u = map (λ i. sign_code (sign_in cs (2 ^ i) u)) (range_with_len 0 (length cs))

-- whole plot and subplot
abbrev pub place_text : ℕ → ℕ → List ℕ
place_text p t = decimal (p + 1) ++ codes " " ++ decimal (t + 1) ++ codes " "

-- the row of a subplot: where it is, and the signs of its run
abbrev pub row_text : ℕ → List ℕ → ℕ → ℕ → List ℕ
row_text w cs p t = place_text p t ++ signs_text cs (run_number (w ∷ []) p t) ++ codes "\n"

-- the rows of a whole plot, one for each subplot
abbrev pub plot_text : ℕ → ℕ → List ℕ → ℕ → List ℕ
plot_text w s cs p = flat_map (row_text w cs p) (range_with_len 0 (2 ^ s))

-- the rows of every whole plot
abbrev pub layout_text : ℕ → ℕ → List ℕ → List ℕ
layout_text w s cs = flat_map (plot_text w s cs) (range_with_len 0 (2 ^ w))

-- the second whole plot of the columns 1, 4, 5, 6
example_plot : plot_text 2 1 (1 ∷ 4 ∷ 5 ∷ 6 ∷ []) 1 ≡ codes "2 1 -+-+\n2 2 --+-\n"
unfolding ones ones_in digits
example_plot = refl
