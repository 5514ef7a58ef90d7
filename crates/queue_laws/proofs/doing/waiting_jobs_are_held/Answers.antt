use Rattle.queue_laws.proofs.OnHold.{is_held, hold_refused}
use Rattle.queue_laws.proofs.doing.waiting_jobs_are_held.Goals as goal

pub returns-clause-held : goal.returns-clause-held
returns-clause-held c = is_held

pub returns-clause-begun : goal.returns-clause-begun
returns-clause-begun c = hold_refused
