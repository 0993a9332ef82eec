-- What the questions to a key answer. Assumes nothing.
use Rattle.std.specs.Prelude.{◌≡◌, ℕ, ◌^◌, Bool, List, [], ◌∷◌, ◌++◌, length, drop, Ok, Err, Option, Result, MatchOption, nat_le, nat_lt, refl}
use Rattle.few.specs.Few.{items}
use Rattle.theory.specs.declared.refusal.Refusal.{Refusal}
use Rattle.theory.specs.declared.refusal.Refusal.TheVariants.{NoRun, NoEffect, ShortBuffer}
use Rattle.theory.specs.declared.sign.Sign.{Sign}
use Rattle.theory.specs.declared.stratum.Stratum.{Stratum}
use Rattle.theory.specs.Words.{alias, sign}
use Rattle.theory.specs.Keys.{Sound}
use Rattle.theory.specs.Signs.{Halves, PlotHalves}
use Rattle.opening.specs.declared.Shape.{Shape}
use Rattle.key.specs.declared.Key.{Key}
use Rattle.opening.specs.Shapes.{layers_of, homes_of, units_of, factors_of, size_of_chain, stratum_in, granted}
use Rattle.key.specs.Layouts.{signs_text, row_text, plot_text, layout_text}

-- the columns of a key, in factor order
abbrev pub columns_of : Key → List ℕ
columns_of key = items key.columns

-- the alias of an effect
abbrev pub word_of : Key → ℕ → ℕ
word_of key effect = alias (columns_of key) effect

-- Making a key: there is one exactly where the columns are sound for the shape, and it has that shape and those columns.
abbrev pub Making : Shape → List ℕ → Option Key → Type 0
Making shape cs r =
    MatchOption r
    (Sound (layers_of shape) (homes_of shape) cs → ⊥)
    (λ key. Sound (layers_of shape) (homes_of shape) cs × (key.shape ≡ shape) × (columns_of key ≡ cs))

-- ---- checks

abbrev pub effect_check : Key → ℕ → Bool × Refusal
effect_check key effect = (nat_lt effect (2 ^ factors_of key.shape), NoEffect)

abbrev pub run_check : Key → ℕ → Bool × Refusal
run_check key run = (nat_lt run (2 ^ units_of key.shape), NoRun)

abbrev pub room_check : ℕ → ℕ → Bool × Refusal
room_check size room = (nat_le size room, ShortBuffer)

-- a buffer after a call that was to fill it with the content, told how the call was answered: where it is refused, as it was
abbrev pub filled : {A : Type 0} → Result ℕ Refusal → List A → List A → List A
filled (Ok size) content out = content ++ drop size out
filled (Err why) content out = out

-- ---- questions

-- the unit word of an effect and its stratum
abbrev pub alias_answer : Key → ℕ → Result (ℕ × Stratum) Refusal
alias_answer key effect = granted (effect_check key effect ∷ []) (word_of key effect, stratum_in key.shape (word_of key effect))

-- the sign of an effect in a run
abbrev pub sign_answer : Key → ℕ → ℕ → Result Sign Refusal
sign_answer key effect run = granted (run_check key run ∷ effect_check key effect ∷ []) (sign (word_of key effect) run)

-- how many columns are written into a buffer with that many places
abbrev pub key_answer : Key → ℕ → Result ℕ Refusal
key_answer key room = granted (room_check (factors_of key.shape) room ∷ []) (factors_of key.shape)

-- how many effects of a chain are written into a buffer with that many places
abbrev pub chain_answer : Key → ℕ → ℕ → Result ℕ Refusal
chain_answer key effect room = granted (effect_check key effect ∷ room_check (size_of_chain key.shape) room ∷ []) (size_of_chain key.shape)

-- Two effects have the same sign in every run where one chain holds both, and else in exactly half of the runs. Within a
-- whole plot an effect has one sign where its stratum is 0 or 1, and else each sign in exactly half of the plot's runs.
abbrev pub SignLaws : Key → Type 0
SignLaws key = Halves (layers_of key.shape) (columns_of key) × PlotHalves (key.shape.w ∷ []) (key.shape.s ∷ []) (columns_of key)

-- the signs of the factors in a run, the row of a subplot, and the rows of a whole plot
abbrev pub signs_of : Key → ℕ → List ℕ
signs_of key run = signs_text (columns_of key) run

abbrev pub row_of : Key → ℕ → ℕ → List ℕ
row_of key plot subplot = row_text key.shape.w (columns_of key) plot subplot

abbrev pub plot_of : Key → ℕ → List ℕ
plot_of key plot = plot_text key.shape.w key.shape.s (columns_of key) plot

-- the layout: the rows of every whole plot
abbrev pub layout_of : Key → List ℕ
layout_of key = layout_text key.shape.w key.shape.s (columns_of key)

-- how long a layout is that is written into a buffer with that many places
abbrev pub layout_answer : Key → ℕ → Result ℕ Refusal
layout_answer key room = granted (room_check (length (layout_of key)) room ∷ []) (length (layout_of key))

-- two numbers in a buffer of three places
example_filled : filled {A = ℕ} (Ok 2) (7 ∷ 8 ∷ []) (1 ∷ 2 ∷ 3 ∷ []) ≡ 7 ∷ 8 ∷ 3 ∷ []
example_filled = refl
