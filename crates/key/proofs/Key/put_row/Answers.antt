use Rattle.std.proofs.Common.{ℕ, [], ◌∷◌, ◌++◌, codes, append_assoc, arith, length-append}
use Rattle.few.specs.Few.{items}
use Rattle.theory.specs.Signs.{run_number}
use Rattle.key.specs.Layouts.{place_text}
use Rattle.key.specs.Questions.{signs_of}
use Rattle.text.proofs.Laws.{added_fits}
use Rattle.key.proofs.Rows.{few_plots, two_digits, row_le}
use Rattle.key.proofs.Key.put_row.Goals as goal

pub put_place-requires-clause-few : goal.put_place-requires-clause-few
put_place-requires-clause-few c =
    let few = few_plots c.args.self.now c.args.plot c.args.subplot c.requires.plot c.requires.subplot in
    (omega arith, omega arith)

pub put_signs-requires : goal.put_signs-requires
put_signs-requires c =
    let few = few_plots c.args.self.now c.args.plot c.args.subplot c.requires.plot c.requires.subplot in
    rw c.put_place.ensures (omega (arith, length-append {A = ℕ}, two_digits))

pub returns : goal.returns
returns c =
    let key = c.args.self.now in
    let t = items c.args.text.now in
    let row = row_le key c.args.plot c.args.subplot c.requires.plot c.requires.subplot in
    let place = place_text c.args.plot c.args.subplot in
    let signs = signs_of key (run_number (key.shape.w ∷ []) c.args.plot c.args.subplot) in
    rw (
      c.add_bytes.ensures,
      c.put_signs.ensures,
      c.put_place.ensures,
      c.run_in.ensures,
      append_assoc t place signs,
      added_fits 544 (t ++ (place ++ signs)) (codes "\n") (omega (arith, length-append {A = ℕ})),
    )
    (append_assoc t (place ++ signs) (codes "\n"))
