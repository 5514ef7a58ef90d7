use Rattle.std.specs.Io.KnownBytes.{Keeps}
use Rattle.http_wire.proofs.put.put_once.Given as goal

abbrev pub invariant-tries : goal.invariant-tries
invariant-tries g l = Keeps (g.W.Write.contents l.initial.writer) (g.W.Write.contents l.writer)
