-- A line that is read gives an answer, and fewer answers may come after it.
use Rattle.std.proofs.Common.{◌≡◌, ℕ, ◌<◌, ◌≤◌, List, length, Some, Ok, Err, Result, sym, refl, ap, subst, arith}
use Rattle.std.specs.Bool.{⊤}
use Rattle.std.specs.Iterator.{MakesProgress, at_most}
use Rattle.theory.specs.declared.refusal.Refusal.{Refusal}
use Rattle.opening.specs.declared.Numbers.{Numbers}
use Rattle.opening.specs.declared.Shape.{Shape}
use Rattle.lines.specs.Commands.{commands}
use Rattle.lines.specs.Opens.{opens}
use Rattle.lines.specs.Ranks.{ranks}
use Rattle.lines.specs.declared.command.Command.{Command}
use Rattle.lines.specs.declared.ranking.RankingName.{RankingName}
use Rattle.lines.specs.declared.ranking.RankingName.TheVariants.{Aberration}
use Rattle.sheet.specs.Left.{lines_left, words_left, GivesLine}
use Rattle.sheet.specs.declared.fault.LineFault.{LineFault}
use Rattle.sheet.specs.declared.fault.SheetFault.{SheetFault}
use Rattle.sheet.specs.declared.reader.Line.{Line}
use Rattle.sheet.specs.declared.reader.Reader.{Reader}
use Rattle.spelling.specs.declared.answer.Answer.{Answer}
use Rattle.answers.specs.Obeyed.{alphabet_of}
use Rattle.answers.specs.Stepped.{Outcome, Opened, Ranked, Ordered, Stepped, opened_by, lifted}
use Rattle.answers.specs.Sessions.{Told, Read, TakenAt, Gives, most_at, most_left}
use Rattle.answers.specs.declared.desk.Desk.{Desk}
use Rattle.answers.specs.declared.session.Session.{Session}
use Rattle.answers.specs.declared.stage.Stage.{Stage}
use Rattle.answers.specs.declared.stage.Stage.TheVariants as at

-- no more answers may come after an outcome than lines are left
abbrev Goes : {F : Type 0} → Outcome F → Type 0
Goes (Ok outcome) = (n : ℕ) → most_at outcome.1 n ≤ n
Goes (Err fault) = Unit {0}

opened_goes : (line : ℕ) (said : Result Numbers LineFault) (r : Outcome LineFault) → Opened line said r → Goes r
opened_goes line (Err fault) r so = subst Goes (sym so) tt
opened_goes line (Ok numbers) r (made, opening, so) = subst Goes (sym so) (by made)
  where
    by : (made : Result Shape Refusal) → Goes {F = LineFault} (Ok (opened_by line made))
    by (Ok shape) n = omega arith
    by (Err why) n = omega arith

ranked_goes : (shape : Shape) (said : Result RankingName LineFault) (r : Outcome LineFault) → Ranked shape said r → Goes r
ranked_goes shape (Err fault) r so = subst Goes (sym so) tt
ranked_goes shape (Ok Aberration) r (desk, begins, so) = subst Goes (sym so) (λ n. omega arith)

ordered_goes : (desk : Desk) (line : ℕ) (said : Result Command LineFault) (r : Outcome LineFault) → Ordered desk line said r → Goes r
ordered_goes desk line (Err fault) r so = subst Goes (sym so) tt
ordered_goes desk line (Ok command) r (answer, (after, obeyed, so)) = subst Goes (sym so) (λ n. omega arith)

lifted_goes : (r : Outcome LineFault) → Goes r → Goes (lifted r)
lifted_goes (Ok outcome) g = g
lifted_goes (Err fault) g = tt

-- the stages at which a line is read
pub record Reads (stage : Stage) : Type 0 where
  pub not_over : stage ≡ at.Over → ⊥
  pub not_unread : (fault : SheetFault) → stage ≡ at.Unread fault → ⊥

stepped_goes : (stage : Stage) (line : ℕ) (said : List (ℕ × List ℕ)) (r : Outcome SheetFault) → Reads stage → Stepped stage line said r → Goes r
stepped_goes at.Opening line said r reads so = subst Goes (sym so.same) (lifted_goes so.read (opened_goes line (opens line said) so.read so.so))
stepped_goes (at.Ranking shape) line said r reads so = subst Goes (sym so.same) (lifted_goes so.read (ranked_goes shape (ranks line said) so.read so.so))
stepped_goes (at.Orders desk) line said r reads so = subst Goes (sym so.same) (lifted_goes so.read (ordered_goes desk line (commands (alphabet_of desk) line said) so.read so.so))
stepped_goes (at.Unread fault) line said r reads so = absurd (reads.not_unread fault refl)
stepped_goes at.Over line said r reads so = absurd (reads.not_over refl)

told_goes : (outcome : Outcome SheetFault) (answer : Answer) (after : Stage) → Goes outcome → Told outcome answer after → (n : ℕ) → most_at after n ≤ n
told_goes (Ok outcome) answer after goes told n = subst (λ (s : Stage). most_at s n ≤ n) (sym told.1) (goes n)
told_goes (Err fault) answer after goes told n = subst (λ (s : Stage). most_at s n ≤ n) (sym told.1) (omega arith)

most_here : (stage : Stage) (n : ℕ) → Reads stage → most_at stage n ≡ n
most_here at.Opening n reads = refl
most_here (at.Ranking shape) n reads = refl
most_here (at.Orders desk) n reads = refl
most_here (at.Unread fault) n reads = absurd (reads.not_unread fault refl)
most_here at.Over n reads = absurd (reads.not_over refl)

taken_at : (stage : Stage) (before : Session) (answer : Answer) (after : Session) → Reads stage → Read before (lines_left before.reader) answer after → TakenAt stage before answer after
taken_at at.Opening before answer after reads read = read
taken_at (at.Ranking shape) before answer after reads read = read
taken_at (at.Orders desk) before answer after reads read = read
taken_at (at.Unread fault) before answer after reads read = absurd (reads.not_unread fault refl)
taken_at at.Over before answer after reads read = absurd (reads.not_over refl)

module _ (before after : Session) (line : Line) (rest : Reader) (outcome : Outcome SheetFault) (answer : Answer) (reads : Reads before.stage)
    (gives : GivesLine before.reader (Some line) rest) (steps : Stepped before.stage line.number (words_left line) outcome) (told : Told outcome answer after.stage) (left : after.reader ≡ rest) where
  -- what the line is answered is what the session's next answer is to be
  pub turn_gives : Gives before (Some answer) after
  turn_gives =
      let words_read = subst (λ (ws : List (ℕ × List ℕ)). Stepped before.stage line.number ws outcome) gives.whole.0 steps in
      let read : Read before (lines_left before.reader) answer after = subst (λ (ls : List (ℕ × List ℕ)). Read before ls answer after) (sym gives.given) (ap lines_left left, (outcome, words_read, told)) in
      record { taken = taken_at before.stage before answer after reads read; last = tt }

  fewer : most_left after < most_left before
  fewer =
      let here = most_here before.stage (length (lines_left before.reader)) reads in
      let there = told_goes outcome answer after.stage (stepped_goes before.stage line.number (words_left line) outcome reads steps) told (length (lines_left after.reader)) in
      omega (arith, ap length gives.given, ap (λ (r : Reader). length (lines_left r)) left)

  pub turn_goes : MakesProgress (λ _. ⊤) (λ s. at_most (most_left s)) before (Some answer) after
  turn_goes = record { on = λ _. (tt, tt, fewer); keeps = tt; rests = λ _. tt }
