-- How an answer is spelled. Each printed line ends with a line feed. Assumes nothing.
use Rattle.std.specs.Prelude.{◌≡◌, ℕ, ◌<◌, ◌≤◌, cond, List, [], ◌∷◌, ◌++◌, length, drop, Ok, Err, codes, decimal, Result, ◌==◌, slice_index, refl}
use Rattle.std.specs.List.{range_with_len, flat_map}
use Rattle.std.specs.Fmt.{digits}
use Rattle.few.specs.Few.{items}
use Rattle.theory.specs.Refusals.{refusal_number}
use Rattle.theory.specs.declared.refusal.Refusal.{Refusal}
use Rattle.theory.specs.declared.refusal.Refusal.TheVariants.{NoPlan, ShortBuffer}
use Rattle.key.specs.Questions.{columns_of, layout_of}
use Rattle.sheet.specs.Faults.{fault_number, fault_place}
use Rattle.sheet.specs.Letters.{letter_of, letters_of, letters_from}
use Rattle.sheet.specs.declared.fault.SheetFault.{SheetFault}
use Rattle.sheet.specs.declared.fault.SheetFault.TheVariants.{Form}
use Rattle.spelling.specs.declared.answer.Answer.{Answer}
use Rattle.spelling.specs.declared.answer.Answer.TheVariants.{Nothing, Plan, Rows, Chain, Refused, Fault}

-- a factor's letter and its column, after a space: ` A=1`
abbrev pub column_text : ℕ → ℕ → ℕ → List ℕ
column_text n1 factor column = codes " " ++ (letter_of n1 factor ∷ codes "=") ++ decimal column

-- the columns of all factors, in factor order
abbrev pub columns_text : ℕ → List ℕ → List ℕ
columns_text n1 cs = flat_map (λ i. column_text n1 i (slice_index cs i)) (range_with_len 0 (length cs))

-- `key` and each factor's column
abbrev pub plan_text : ℕ → List ℕ → List ℕ
plan_text n1 cs = codes "key" ++ columns_text n1 cs ++ codes "\n"

-- an effect as letters, with a space before it unless it is the first in its place
abbrev pub effect_text : ℕ → ℕ → ℕ → List ℕ
effect_text n1 place effect = cond (place == 0) [] (codes " ") ++ letters_of n1 effect

-- effects as letters, with spaces between them
abbrev pub effects_text : ℕ → List ℕ → List ℕ
effects_text n1 es = flat_map (λ i. effect_text n1 i (slice_index es i)) (range_with_len 0 (length es)) ++ codes "\n"

-- `no`, the refusal's number, `line` and the line
abbrev pub refused_text : Refusal → ℕ → List ℕ
refused_text refusal line = codes "no " ++ decimal (refusal_number refusal) ++ codes " line " ++ decimal line ++ codes "\n"

-- `bad`, the fault's number, `line`, the line, `column` and the column
abbrev pub fault_text : SheetFault → List ℕ
fault_text fault =
    codes "bad " ++ decimal (fault_number fault) ++ codes " line " ++ decimal (fault_place fault).line
    ++ codes " column " ++ decimal (fault_place fault).column ++ codes "\n"

abbrev pub answer_text : Answer → List ℕ
answer_text Nothing = []
answer_text (Plan key) = plan_text key.shape.n1 (columns_of key)
answer_text (Rows key) = layout_of key
answer_text (Chain effects) = effects_text effects.n1 (items effects.list)
answer_text (Refused refusal line) = refused_text refusal line
answer_text (Fault fault) = fault_text fault

-- Writing an answer into a buffer: one of fewer than 1,024 bytes is refused and left as it was; else the text stands at
-- its start and fits, the places beyond are as they were, and its length is told.
abbrev pub Put : Answer → List ℕ → Result ℕ Refusal → List ℕ → Type 0
Put answer out (Err why) out' = (why ≡ ShortBuffer) × (length out < 1024) × (out' ≡ out)
Put answer out (Ok size) out' =
    (1024 ≤ length out) × (size ≡ length (answer_text answer)) × (size ≤ length out) × (out' ≡ answer_text answer ++ drop size out)

example_plan : plan_text 1 (1 ∷ 4 ∷ 5 ∷ 6 ∷ []) ≡ codes "key A=1 p=4 q=5 r=6\n"
unfolding digits
example_plan = refl

example_effects : effects_text 1 (0 ∷ 7 ∷ []) ≡ codes "0 Apq\n"
unfolding letters_from
example_effects = refl

example_refused : refused_text NoPlan 3 ≡ codes "no 22 line 3\n"
unfolding digits
example_refused = refl

example_fault : fault_text Form ≡ codes "bad 31 line 1 column 1\n"
unfolding digits
example_fault = refl
