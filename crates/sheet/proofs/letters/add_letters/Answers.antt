use Rattle.std.proofs.Common.{replicate, ap, ◌∙◌}
use Rattle.few.specs.Few.{items}
use Rattle.text.specs.Texts.{added}
use Rattle.text.proofs.Put.{front_is, front_long}
use Rattle.sheet.specs.Letters.{letters_of}
use Rattle.sheet.proofs.Spell.{sixteen_letters}
use Rattle.sheet.proofs.letters.add_letters.Goals as goal

pub slice_bounds-add_bytes-end : goal.slice_bounds-add_bytes-end
slice_bounds-add_bytes-end g c =
    front_long (replicate 16 0) (letters_of c.args.n1 c.args.effect) _ _ (sixteen_letters c.args.n1 c.args.effect) c.put_letters-size.ensures.after c.put_letters-size.ensures.value

pub returns : goal.returns
returns g c =
    let front = front_is (replicate 16 0) (letters_of c.args.n1 c.args.effect) _ _ (sixteen_letters c.args.n1 c.args.effect) c.put_letters-size.ensures.after c.put_letters-size.ensures.value in
    c.add_bytes.ensures ∙ ap (added g.row.CAP (items c.args.text.now)) front
