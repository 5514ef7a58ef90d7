use Rattle.queue_laws.proofs.Telling.{grants_left, next_left, other_jobs_left, documents_left, job_left, accounts_left, other_reports_left}
use Rattle.queue_laws.proofs.device.reports_change_their_job.Goals as goal

pub returns-clause-grants : goal.returns-clause-grants
returns-clause-grants c = grants_left

pub returns-clause-next : goal.returns-clause-next
returns-clause-next c = next_left

pub returns-clause-other_jobs : goal.returns-clause-other_jobs
returns-clause-other_jobs c = other_jobs_left

pub returns-clause-documents : goal.returns-clause-documents
returns-clause-documents c = documents_left

pub returns-clause-job : goal.returns-clause-job
returns-clause-job c w now r j k turn = job_left w now r j k turn.was turn.is

pub returns-clause-accounts : goal.returns-clause-accounts
returns-clause-accounts c = accounts_left

pub returns-clause-other_reports : goal.returns-clause-other_reports
returns-clause-other_reports c = other_reports_left
