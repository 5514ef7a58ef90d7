use Rattle.queue_laws.proofs.Moving.{started, stopped, resumed, counts_job, done, failed, halted_for_asker, halted_at_device, printing_begun}
use Rattle.queue_laws.proofs.reported.jobs_are_reported.Goals as goal

pub returns-clause-started : goal.returns-clause-started
returns-clause-started c w now r j is = started w now r j is.job is.new is.kind

pub returns-clause-stopped : goal.returns-clause-stopped
returns-clause-stopped c w now r j is = stopped w now r j is.job is.new is.kind

pub returns-clause-resumed : goal.returns-clause-resumed
returns-clause-resumed c w now r j is = resumed w now r j is.job is.new is.kind

pub returns-clause-counted : goal.returns-clause-counted
returns-clause-counted c w now r j is = counts_job w now r j is.job is.new is.kind

pub returns-clause-done : goal.returns-clause-done
returns-clause-done c w now r j is = done w now r j is.job is.new is.kind

pub returns-clause-failed : goal.returns-clause-failed
returns-clause-failed c w now r j is at = failed w now r j is.job is.new is.kind at.0 at.1

pub returns-clause-halted_for_asker : goal.returns-clause-halted_for_asker
returns-clause-halted_for_asker c w now r j why is at = halted_for_asker w now r j is.job is.new why is.kind at.0 at.1

pub returns-clause-halted_at_device : goal.returns-clause-halted_at_device
returns-clause-halted_at_device c w now r j is at = halted_at_device w now r j is.job is.new is.kind at.0 at.1

pub returns-clause-begun : goal.returns-clause-begun
returns-clause-begun c w n j sound there at = printing_begun w n j sound there at.0 at.1
