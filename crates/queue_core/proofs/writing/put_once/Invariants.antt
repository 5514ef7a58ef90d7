use Rattle.std.specs.Io.KnownBytes.{Keeps}
use Rattle.queue_core.proofs.writing.put_once.Given as goal

abbrev pub invariant-tries : goal.invariant-tries
invariant-tries g l = Keeps (g.W.Write.contents l.initial.out) (g.W.Write.contents l.out)
