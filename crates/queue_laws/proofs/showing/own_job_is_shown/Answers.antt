use Rattle.queue_laws.proofs.OneJob.{shown_own}
use Rattle.queue_laws.proofs.OneLeft.{shown_kept}
use Rattle.queue_laws.proofs.showing.own_job_is_shown.Goals as goal

pub returns-clause-shown : goal.returns-clause-shown
returns-clause-shown c = shown_own

pub returns-clause-kept : goal.returns-clause-kept
returns-clause-kept c = shown_kept
