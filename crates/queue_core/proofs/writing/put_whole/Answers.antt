use Rattle.std.proofs.Common.{arith}
use Rattle.queue_core.proofs.Writes.{put_rest, rest_length}
use Rattle.queue_core.proofs.writing.put_whole.Goals as goal

pub write-preserved : goal.write-preserved
write-preserved g c = record {
  within = let e = rest_length c.args.bytes.now c.write.at in omega (arith, e, c.put_once-n.ensures.within, c.write.invariant.within);
  written = put_rest _ _ _ c.args.bytes.now c.write.at c.put_once-n.result c.write.invariant.written c.put_once-n.ensures.taken;
}
