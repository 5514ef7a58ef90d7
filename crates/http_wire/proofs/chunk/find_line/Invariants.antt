use Rattle.std.proofs.Common.{◌-◌, ◌≤◌, length}
use Rattle.std.specs.Io.KnownBytes.{Keeps}
use Rattle.http_head.specs.Reads.{bytes_left, come, reads_left}
use Rattle.http_wire.proofs.chunk.find_line.Given as goal

abbrev pub invariant-fill : goal.invariant-fill
invariant-fill g l = record {
  kept : Keeps (bytes_left g.R.Read l.initial.input) (bytes_left g.R.Read l.input);
  never_more : reads_left l.input ≤ reads_left l.initial.input;
}

abbrev pub decreases-fill : goal.decreases-fill
decreases-fill g l = 16384 - length (come l.input)
