use Rattle.queue_laws.proofs.Entered.{refused_alike, taken_alike}
use Rattle.queue_laws.proofs.entering.validated_jobs_would_print.Goals as goal

pub returns-clause-refused : goal.returns-clause-refused
returns-clause-refused c w now caller new d = refused_alike w now caller new d.format d.bytes

pub returns-clause-taken : goal.returns-clause-taken
returns-clause-taken c w now caller new d = taken_alike w now caller new d.format d.bytes
