use Rattle.std.proofs.Common.{ℕ, Ok, Result, refl, subst}
use Rattle.sheet.specs.Left.{read_of}
use Rattle.sheet.specs.declared.fault.LineFault.{LineFault}
use Rattle.sheet.specs.declared.letters.Alphabet.{Alphabet}
use Rattle.lines.specs.Commands.{commands}
use Rattle.lines.specs.declared.command.Command.{Command}
use Rattle.spelling.specs.Spelled.{answer_text}
use Rattle.answers.specs.Obeyed.{Obeyed}
use Rattle.answers.specs.Stepped.{Ordered, Outcome}
use Rattle.answers.specs.declared.stage.Stage.TheVariants as at
use Rattle.answers.proofs.stage.ordered.Goals as goal

pub returns : goal.returns
returns c =
    let desk = c.args.desk in
    let answer = c.obey-answer.result.0 in
    let after = c.obey-answer.result.1 in
    let r : Outcome LineFault = Ok (answer, at.Orders after) in
    let line = c.number-number.ensures in
    subst (λ (a : Alphabet). Ordered desk c.args.line.number (read_of (commands a) c.args.line) r) c.alphabet.ensures
    (subst (λ (read : Result Command LineFault). Ordered desk c.args.line.number read r) c.in_ok-command.ensures
    (answer, (after, subst (λ (n : ℕ). Obeyed desk c.in_ok-command.command n (answer_text answer) after) line c.obey-answer.ensures, refl)))
