use Rattle.queue_laws.proofs.Overdue.{jobs_end, pages_come_back, ends_counted}
use Rattle.queue_laws.proofs.expiring.held_jobs_expire.Goals as goal

pub returns-clause-jobs : goal.returns-clause-jobs
returns-clause-jobs c = jobs_end

pub returns-clause-free : goal.returns-clause-free
returns-clause-free c = pages_come_back

pub returns-clause-counted : goal.returns-clause-counted
returns-clause-counted c = ends_counted
