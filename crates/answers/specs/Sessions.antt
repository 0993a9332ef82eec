-- What a session answers, line by line. Assumes nothing.
use Rattle.std.specs.Prelude.{◌≡◌, ℕ, ◌<◌, List, [], ◌∷◌, length, Ok, Err, Option, Result, IfNone, unwrap_or, refl}
use Rattle.theory.specs.declared.refusal.Refusal.{Refusal}
use Rattle.theory.specs.declared.refusal.Refusal.TheVariants.{ShortBuffer}
use Rattle.sheet.specs.Cuts.{words, placed}
use Rattle.sheet.specs.Forms.{form_check}
use Rattle.sheet.specs.Left.{lines_left}
use Rattle.sheet.specs.declared.fault.SheetFault.{SheetFault}
use Rattle.spelling.specs.Spelled.{Put}
use Rattle.answers.specs.Stepped.{Outcome, Stepped}
use Rattle.spelling.specs.declared.answer.Answer.{Answer}
use Rattle.spelling.specs.declared.answer.Answer.TheVariants.{Nothing, Fault}
use Rattle.answers.specs.declared.session.Session.{Session}
use Rattle.answers.specs.declared.stage.Stage.{Stage}
use Rattle.answers.specs.declared.stage.Stage.TheVariants as at

-- a sheet that is well formed begins with an opening; the fault of another is told by its first answer
abbrev pub stage_by : Result Unit SheetFault → Stage
stage_by (Ok fine) = at.Opening
stage_by (Err fault) = at.Unread fault

abbrev pub first_stage : List ℕ → Stage
first_stage sheet = stage_by (form_check sheet)

-- the answer to a line that was read, and the stage after it; a fault is told and ends the sheet
abbrev pub Told : Outcome SheetFault → Answer → Stage → Type 0
Told (Ok outcome) answer stage = (answer ≡ outcome.0) × (stage ≡ outcome.1)
Told (Err fault) answer stage = (answer ≡ Fault fault) × (stage ≡ at.Over)

-- The next of the lines left is read at the stage that the sheet has come to; where none is left, the answer is nothing
-- and nothing changes.
abbrev pub Read : Session → List (ℕ × List ℕ) → Answer → Session → Type 0
Read before [] answer after = (answer ≡ Nothing) × (after ≡ before)
Read before (l ∷ ls) answer after =
    (lines_left after.reader ≡ ls)
    × ((outcome : Outcome SheetFault) × Stepped before.stage l.0 (placed 1 (words l.1)) outcome × Told outcome answer after.stage)

-- what is answered next, and the session after it
abbrev pub TakenAt : Stage → Session → Answer → Session → Type 0
TakenAt at.Over before answer after = (answer ≡ Nothing) × (after ≡ before)
TakenAt (at.Unread fault) before answer after = (answer ≡ Fault fault) × (after.stage ≡ at.Over) × (after.reader ≡ before.reader)
TakenAt at.Opening before answer after = Read before (lines_left before.reader) answer after
TakenAt (at.Ranking shape) before answer after = Read before (lines_left before.reader) answer after
TakenAt (at.Orders desk) before answer after = Read before (lines_left before.reader) answer after

abbrev pub Taken : Session → Answer → Session → Type 0
Taken before answer after = TakenAt before.stage before answer after

-- how many answers may still come: none once the sheet is over, one of a sheet at fault as a whole, else as many as lines are left
abbrev pub most_at : Stage → ℕ → ℕ
most_at at.Over lines = 0
most_at (at.Unread fault) lines = 1
most_at at.Opening lines = lines
most_at (at.Ranking shape) lines = lines
most_at (at.Orders desk) lines = lines

abbrev pub most_left : Session → ℕ
most_left session = most_at session.stage (length (lines_left session.reader))

-- One call for the next answer. None comes only where none may still come, and then nothing has changed.
pub record Gives (before : Session) (given : Option Answer) (after : Session) : Type 0 where
  pub taken : Taken before (unwrap_or given Nothing) after
  pub last : IfNone given (most_left before ≡ 0)

-- The call that answers: it refuses a buffer of fewer than 1,024 bytes and then changes nothing; else it writes the text
-- of the next answer at the buffer's start, leaves the places beyond as they were, and tells its length.
abbrev pub Answered : Session → List ℕ → Result ℕ Refusal → Session → List ℕ → Type 0
Answered before out (Err why) after out' = (why ≡ ShortBuffer) × (length out < 1024) × (after ≡ before) × (out' ≡ out)
Answered before out (Ok size) after out' = (answer : Answer) × Taken before answer after × Put answer out (Ok size) out'

example_empty : first_stage [] ≡ at.Opening
example_empty = refl
