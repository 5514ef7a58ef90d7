use Rattle.std.proofs.Common.{◌-◌, ◌≤◌, length, take}
use Rattle.std.specs.Io.KnownBytes.{Appends}
use Rattle.queue_core.proofs.writing.put_whole.Given as goal

abbrev pub invariant-write : goal.invariant-write
invariant-write g l = record {
  within : l.at ≤ length l.bytes;
  written : Appends (g.W.Write.contents l.initial.out) (g.W.Write.contents l.out) (take l.at l.bytes);
}

abbrev pub decreases-write : goal.decreases-write
decreases-write g l = length l.bytes - l.at
