use Rattle.std.proofs.Common.{◌≡◌, ℕ, List, length, get_or, take, sym, ap, ◌∙◌, arith, length-set}
use Rattle.std.proofs.lemmas.List.{take_more_set}
use Rattle.few.specs.Few.{items}
use Rattle.theory.specs.Words.{sign}
use Rattle.text.specs.Texts.{added}
use Rattle.text.proofs.Laws.{added_fits}
use Rattle.key.specs.Layouts.{sign_code}
use Rattle.key.specs.Questions.{columns_of}
use Rattle.key.proofs.Soundness.{length_columns}
use Rattle.key.proofs.Rows.{signs_to, length_signs_to, signs_more}
use Rattle.key.proofs.Key.put_signs.Goals as goal

pub loop-factor-preserved : goal.loop-factor-preserved
loop-factor-preserved c =
    let cs = columns_of c.args.self.now in
    let u = c.args.run in
    let i = c.loop-factor.factor in
    let signs = c.loop-factor.signs in
    let long = ap length c.columns-columns.ensures ∙ length_columns c.args.self.now in
    let same : c.mark.result ≡ sign_code (sign (get_or cs i 0) u) = c.mark.ensures ∙ ap sign_code (c.sign_of.ensures ∙ ap (λ (xs : List ℕ). sign (get_or xs i 0) u) c.columns-columns.ensures) in (
      take_more_set signs i c.mark.result (omega (arith, long, c.loop-factor.invariant.1)) ∙ rw (c.loop-factor.invariant.0, same) (sym (signs_more cs u i)),
      length-set signs i c.mark.result ∙ c.loop-factor.invariant.1,
    )

pub returns : goal.returns
returns c =
    let cs = columns_of c.args.self.now in
    let u = c.args.run in
    let signs = c.loop-factor.signs in
    let same = ap length c.columns-columns.ensures in
    let all : c.loop-factor.factor ≡ length cs = omega (arith, same) in
    let whole : take (length c.columns-columns.result.now) signs ≡ signs_to cs u (length cs) = ap (λ (k : ℕ). take k signs) (same ∙ sym all) ∙ c.loop-factor.invariant.0 ∙ ap (signs_to cs u) all in
    c.add_bytes.ensures ∙ ap (added 544 (items c.args.text.now)) whole ∙ added_fits 544 (items c.args.text.now) (signs_to cs u (length cs)) (omega (arith, length_signs_to cs u (length cs), length_columns c.args.self.now))
