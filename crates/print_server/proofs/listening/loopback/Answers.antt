use Rattle.std.proofs.Common.{refl}
use Rattle.print_server.proofs.listening.loopback.Goals as goal

pub returns-clause-ip : goal.returns-clause-ip
returns-clause-ip c = (_, c.from.ensures.0, refl)
