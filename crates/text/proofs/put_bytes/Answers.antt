use Rattle.std.proofs.Common.{sym, ◌∙◌, arith}
use Rattle.text.proofs.Put.{put_part, written_fits, ended_fits}
use Rattle.text.proofs.put_bytes.Goals as goal

pub returns : goal.returns
returns c = record {
  value = sym (ended_fits c.args.out.now c.args.at c.args.bytes.now (omega arith));
  after = put_part c.args.out.now c.args.at c.args.bytes.now _ _ c.copy_from_slice.ensures.after (omega arith) ∙ sym (written_fits c.args.out.now c.args.at c.args.bytes.now (omega arith));
}
