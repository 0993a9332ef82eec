use Rattle.std.proofs.Common.{◌≡◌, ℕ, List, Ok, Err, Result, MatchResult, ap, sym, subst, rules}
use Rattle.theory.specs.declared.refusal.Refusal.{Refusal}
use Rattle.spelling.specs.Spelled.{answer_text}
use Rattle.spelling.specs.declared.answer.Answer.{Answer}
use Rattle.spelling.specs.declared.answer.Answer.TheVariants.{Refused}
use Rattle.answers.specs.Obeyed.{Obeyed, outcome_text}
use Rattle.answers.proofs.desk.Desk.obey.Goals as goal

told : (line : ℕ) (r : Result Answer Refusal) (a : Answer) → MatchResult r (λ x. a ≡ x) (λ e. a ≡ Refused e line) → outcome_text r line ≡ answer_text a
told line (Ok x) a is = ap answer_text (sym is)
told line (Err e) a is = ap answer_text (sym is)

pub returns : goal.returns
returns c =
    subst (λ (text : List ℕ). Obeyed c.args.self c.args.command c.args.line text c.outcome-outcome.new.self)
    (told c.args.line c.outcome-outcome.result c.unwrap_or_else-answer.result (search rules))
    (c.outcome-outcome.ensures c.args.line)
