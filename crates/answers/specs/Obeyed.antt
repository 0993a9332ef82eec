-- What an order is answered, and what it leaves. Assumes nothing.
use Rattle.std.specs.Prelude.{◌≡◌, ℕ, List, Some, None, Ok, Err, Option, Result}
use Rattle.theory.specs.declared.refusal.Refusal.{Refusal}
use Rattle.theory.specs.declared.refusal.Refusal.TheVariants.{NoPlan}
use Rattle.theory.specs.Chains.{chain}
use Rattle.opening.specs.declared.Shape.{Shape}
use Rattle.key.specs.Questions.{columns_of, layout_of, chain_answer}
use Rattle.key.specs.declared.Key.{Key}
use Rattle.ranking.specs.Aberrations.{shortest, fewest}
use Rattle.planner.specs.Entries.{find}
use Rattle.planner.specs.Histories.{Goes}
use Rattle.lines.specs.declared.command.Command.{Command}
use Rattle.lines.specs.declared.command.Command.TheVariants.{Find, Layout, Chain}
use Rattle.sheet.specs.declared.letters.Alphabet.{Alphabet}
use Rattle.spelling.specs.Spelled.{plan_text, effects_text, refused_text, answer_text}
use Rattle.spelling.specs.declared.answer.Answer.{Answer}
use Rattle.answers.specs.declared.desk.Desk.{Desk}

-- the numbers of the trial, and its standing plan
abbrev pub shape_of : Desk → Shape
shape_of desk = desk.planner.standing.shape

-- the letters of its factors
abbrev pub alphabet_of : Desk → Alphabet
alphabet_of desk = record { n1 = (shape_of desk).n1; n2 = (shape_of desk).n2 }

abbrev pub plan_of : Desk → Option Key
plan_of desk = desk.planner.plan

-- the text of a found plan, or of the refusal
abbrev pub plan_told : Result Key Refusal → ℕ → List ℕ
plan_told (Err why) line = refused_text why line
plan_told (Ok key) line = plan_text key.shape.n1 (columns_of key)

-- the text of the chain of e in a plan: its effects, or the refusal of the question
abbrev pub chain_by : Result ℕ Refusal → Key → ℕ → ℕ → List ℕ
chain_by (Ok size) key e line = effects_text key.shape.n1 (chain (columns_of key) e)
chain_by (Err why) key e line = refused_text why line

abbrev pub chain_told : Key → ℕ → ℕ → List ℕ
chain_told key e line = chain_by (chain_answer key e 32) key e line

-- the text of an outcome: its answer, or the refusal
abbrev pub outcome_text : Result Answer Refusal → ℕ → List ℕ
outcome_text (Ok answer) line = answer_text answer
outcome_text (Err why) line = refused_text why line

-- what is told of a plan, or that none stands
abbrev pub of_plan : (Key → List ℕ) → Option Key → ℕ → List ℕ
of_plan told None line = refused_text NoPlan line
of_plan told (Some key) line = told key

-- An order at a desk, its line, the text that is printed and the desk afterwards. Finding is the planner's, with its
-- promise after every history; the questions change nothing.
abbrev pub Obeyed : Desk → Command → ℕ → List ℕ → Desk → Type 0
Obeyed desk Find line text after =
    (r : Result Key Refusal) × Goes (λ _. shortest) (λ _. fewest) desk.planner (find r) after.planner × (text ≡ plan_told r line)
Obeyed desk Layout line text after = (text ≡ of_plan layout_of (plan_of desk) line) × (after ≡ desk)
Obeyed desk (Chain e) line text after = (text ≡ of_plan (λ key. chain_told key e line) (plan_of desk) line) × (after ≡ desk)
