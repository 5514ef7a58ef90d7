use Rattle.queue_laws.proofs.Entered.{printed, created}
use Rattle.queue_laws.proofs.entering.new_jobs_enter_held.Goals as goal

pub returns-clause-printed : goal.returns-clause-printed
returns-clause-printed c w now caller new d = printed w now caller new d.format d.bytes

pub returns-clause-created : goal.returns-clause-created
returns-clause-created c = created
