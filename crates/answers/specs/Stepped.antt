-- What a line is answered at each stage of a sheet, and the stage after it. Assumes nothing.
--
-- A line is given by its number and its words with their columns. It is read as its stage asks; a fault of the text is
-- the outcome then.
use Rattle.std.specs.Prelude.{◌≡◌, ℕ, List, Ok, Err, Result}
use Rattle.theory.specs.declared.refusal.Refusal.{Refusal}
use Rattle.opening.specs.declared.Shape.{Shape}
use Rattle.opening.specs.Shapes as shapes
use Rattle.lines.specs.Commands.{commands}
use Rattle.lines.specs.Opens.{opens}
use Rattle.lines.specs.Ranks.{ranks}
use Rattle.lines.specs.declared.command.Command.{Command}
use Rattle.sheet.specs.declared.fault.LineFault.{LineFault}
use Rattle.sheet.specs.declared.fault.SheetFault.{SheetFault}
use Rattle.sheet.specs.declared.fault.SheetFault.TheVariants as of
use Rattle.opening.specs.declared.Numbers.{Numbers}
use Rattle.lines.specs.declared.ranking.RankingName.{RankingName}
use Rattle.lines.specs.declared.ranking.RankingName.TheVariants.{Aberration}
use Rattle.ranking.specs.Aberrations.{shortest, fewest}
use Rattle.planner.specs.Openings.{Begins}
use Rattle.answers.specs.Obeyed.{Obeyed, alphabet_of}
use Rattle.spelling.specs.Spelled.{answer_text}
use Rattle.spelling.specs.declared.answer.Answer.{Answer}
use Rattle.spelling.specs.declared.answer.Answer.TheVariants.{Nothing, Refused}
use Rattle.answers.specs.declared.desk.Desk.{Desk}
use Rattle.answers.specs.declared.stage.Stage.{Stage}
use Rattle.answers.specs.declared.stage.Stage.TheVariants as at

-- an answer and the stage after it, or a fault
abbrev pub Outcome : Type 0 → Type 0
Outcome Fault = Result (Answer × Stage) Fault

-- a granted opening prints nothing, and a ranking is to be chosen; a refused one is told, and ends the sheet
abbrev pub opened_by : ℕ → Result Shape Refusal → Answer × Stage
opened_by line (Ok shape) = (Nothing, at.Ranking shape)
opened_by line (Err why) = (Refused why line, at.Over)

-- the opening line, as it was read
abbrev pub Opened : ℕ → Result Numbers LineFault → Outcome LineFault → Type 0
Opened line (Err fault) r = r ≡ Err fault
Opened line (Ok o) r =
    (made : Result Shape Refusal) × shapes.Opening o.w o.s o.n1 o.n2 made × (r ≡ Ok (opened_by line made))

-- the line that chooses a ranking, as it was read: nothing is printed, and orders go to a planner that was opened so
abbrev pub Ranked : Shape → Result RankingName LineFault → Outcome LineFault → Type 0
Ranked shape (Err fault) r = r ≡ Err fault
Ranked shape (Ok Aberration) r =
    (desk : Desk) × Begins (λ _. shortest) (λ _. fewest) shape desk.planner.ranking desk.planner × (r ≡ Ok (Nothing, at.Orders desk))

-- an order, as it was read
abbrev pub Ordered : Desk → ℕ → Result Command LineFault → Outcome LineFault → Type 0
Ordered desk line (Err fault) r = r ≡ Err fault
Ordered desk line (Ok command) r =
    (answer : Answer) × ((after : Desk) × Obeyed desk command line (answer_text answer) after × (r ≡ Ok (answer, at.Orders after)))

-- a fault of a line is carried whole into the sheet's
abbrev pub lifted : Outcome LineFault → Outcome SheetFault
lifted (Ok outcome) = Ok outcome
lifted (Err fault) = Err (of.Line fault)

-- what a line says, with its fault as the sheet's
pub record Lifted (Read : Outcome LineFault → Type 0) (r : Outcome SheetFault) : Type 0 where
  pub read : Outcome LineFault
  pub so : Read read
  pub same : r ≡ lifted read

abbrev pub Stepped : Stage → ℕ → List (ℕ × List ℕ) → Outcome SheetFault → Type 0
Stepped at.Opening line words r = Lifted (Opened line (opens line words)) r
Stepped (at.Ranking shape) line words r = Lifted (Ranked shape (ranks line words)) r
Stepped (at.Orders desk) line words r = Lifted (Ordered desk line (commands (alphabet_of desk) line words)) r
Stepped (at.Unread fault) line words r = r ≡ Ok (Nothing, at.Unread fault)
Stepped at.Over line words r = r ≡ Ok (Nothing, at.Over)
