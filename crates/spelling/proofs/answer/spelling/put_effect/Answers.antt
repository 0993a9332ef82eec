use Rattle.std.proofs.Common.{◌≡◌, ℕ, cond, eqb, List, [], ◌++◌, codes, sym, ◌∙◌, append_assoc, append-nil, arith, length-append}
use Rattle.std.proofs.lemmas.Bool.{eq-eqb, ne_eqb}
use Rattle.few.specs.Few.{items}
use Rattle.sheet.specs.Letters.{letters_of}
use Rattle.text.proofs.Laws.{added_fits}
use Rattle.sheet.proofs.Spell.{sixteen_letters}
use Rattle.spelling.proofs.Lengths.{space_le}
use Rattle.spelling.proofs.answer.spelling.put_effect.Goals as goal
use Rattle.spelling.proofs.answer.spelling.put_effect.Goals.{then-place-gt0, else-place-gt0}

pub returns : goal.returns
returns c =
    let t = items c.args.text.now in
    let place = c.args.place in
    let space : List ℕ = cond (eqb place 0) [] (codes " ") in
    let short = space_le (eqb place 0) in
    let begun : items c.if-place-gt0.text ≡ t ++ space =
    elim c.if-place-gt0.branch [
      | then-place-gt0 w ↦
          let fits = added_fits 1024 t (codes " ") (omega arith) in
          let later = ne_eqb place 0 (λ z. omega (arith, w.if-place-gt0.true)) in
          rw (w.text-is, later) (w.add_bytes.ensures ∙ fits)
      | else-place-gt0 w ↦
          let first = eq-eqb place 0 (omega (arith, w.if-place-gt0.false)) in
          rw (w.text-is, first) (sym (append-nil t))
    ] in
    let letters = sixteen_letters c.args.n1 c.args.effect in
    let fits = added_fits 1024 (t ++ space) (letters_of c.args.n1 c.args.effect) (omega (arith, length-append t space)) in
    c.add_letters.ensures ∙ rw (begun, fits) (append_assoc t space (letters_of c.args.n1 c.args.effect))
