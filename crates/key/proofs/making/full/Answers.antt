use Rattle.std.proofs.Common.{ℕ, ◌^◌, ◌<◌, false, get_or, IsTrue, ◌↔◌, refl, arith}
use lib.Bits.{bit_xor, xor_lt}
use Rattle.opening.specs.Shapes.{units_of}
use Rattle.figures.proofs.Rooms.{word_small}
use Rattle.key.proofs.Reach.{Reach, marks_none, marks_more, marks_all}
use Rattle.key.proofs.making.full.Goals as goal

pub loop-column-init : goal.loop-column-init
loop-column-init c = (refl, marks_none)

pub widened-seen-requires : goal.widened-seen-requires
widened-seen-requires c = word_small c.args.shape _ (c.requires c.loop-column.column-index c.loop-column-test.true)

pub loop-column-preserved : goal.loop-column-preserved
loop-column-preserved c = (
  omega arith,
  λ v h.
      let cs = c.args.columns.now in
      let i = c.loop-column.column-index in
      let x = get_or cs i 0 in
      let other : bit_xor v x < 32 = xor_lt 5 v x h (word_small c.args.shape x (c.requires i c.loop-column-test.true)) in
      marks_more cs i v _ _ _ c.loop-column-test.true (c.loop-column.invariant.1 v h) (c.loop-column.invariant.1 (bit_xor v x) other) (c.widened-seen.ensures v h),
)

pub returns : goal.returns
returns c = (
  λ t v l. (mark v l).0 (c.all_seen.ensures.0 t v l),
  λ h. c.all_seen.ensures.1 (λ v l. (mark v l).1 (h v l)),
)
  where
    mark : (v : ℕ) → v < 2 ^ units_of c.args.shape → IsTrue (get_or c.loop-column.seen v false) ↔ Reach c.args.columns.now v
    mark v l = marks_all c.args.columns.now c.loop-column.column-index v _ c.loop-column-test.false (c.loop-column.invariant.1 v (word_small c.args.shape v l))
