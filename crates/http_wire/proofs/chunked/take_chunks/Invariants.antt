use Rattle.std.proofs.Common.{◌-◌, ◌≤◌, length}
use Rattle.http_head.specs.Reads.{bytes_left, reads_left}
use Rattle.http_head.specs.Limits.{content_limit, raw_limit}
use Rattle.http_wire.proofs.ChunkLemmas.{TakesChunks}
use Rattle.http_wire.proofs.chunked.take_chunks.Given as goal

abbrev pub invariant-chunks : goal.invariant-chunks
invariant-chunks g l = record {
  raw_fits : l.raw ≤ raw_limit;
  content_fits : length l.content.items ≤ content_limit;
  chunks : TakesChunks (bytes_left g.R.Read l.initial.input) (bytes_left g.R.Read l.input) l.raw l.content.items;
  never_more : reads_left l.input ≤ reads_left l.initial.input;
}

abbrev pub decreases-chunks : goal.decreases-chunks
decreases-chunks g l = raw_limit - l.raw
