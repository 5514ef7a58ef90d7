use Rattle.queue_laws.proofs.Fetched.{each_pending, pending_rise}
use Rattle.queue_laws.proofs.fetching.startable_jobs_are_shown.Goals as goal

pub returns-clause-each : goal.returns-clause-each
returns-clause-each c = each_pending

pub returns-clause-in_order : goal.returns-clause-in_order
returns-clause-in_order c = pending_rise
