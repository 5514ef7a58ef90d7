use Rattle.std.specs.Io.KnownBytes.{Keeps}
use Rattle.http_head.proofs.buffer.read_once.Given as goal

abbrev pub invariant-tries : goal.invariant-tries
invariant-tries g l = Keeps (g.R.Read.remaining l.initial.reader) (g.R.Read.remaining l.reader)
