use Rattle.std.proofs.Common.{rules, ◌≡◌, ℕ, ◌<◌, false, ◌||◌, get_or, map, arith, ap, ◌∙◌}
use borrow.Author.Tests.{tests}
use Rattle.std.proofs.iter.Serving.{serving}
use Rattle.std.specs.List.{range_with_len}
use Rattle.std.proofs.lemmas.List.FromFn.{get_or-map-range_with_len}
use lib.Bits.{bit_xor, xor_lt}
use Rattle.figures.proofs.Made.{made_map}
use Rattle.key.proofs.making.widened.Goals as goal

pub from_fn-requires : goal.from_fn-requires
from_fn-requires c =
    let other : (w : ℕ) → w < 32 → bit_xor w c.args.column < 32 = λ w h. xor_lt 5 w c.args.column h c.requires in
    grind (serving, other)

pub returns : goal.returns
returns c =
    let mark = λ (w : ℕ). get_or c.args.seen w false || get_or c.args.seen (bit_xor w c.args.column) false in
    let made : c.from_fn.result ≡ map mark (range_with_len 0 32) = made_map _ _ mark 32 (λ i y q l k. search (rules, tests)) c.from_fn.result false c.from_fn.ensures.items in
    λ u h. ap (λ xs. get_or xs u false) made ∙ get_or-map-range_with_len mark 0 32 u u false h (omega arith)
