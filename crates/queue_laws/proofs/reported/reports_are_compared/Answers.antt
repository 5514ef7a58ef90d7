use Rattle.queue_laws.proofs.Moving.{no_job, found, other_kind, other_count, same}
use Rattle.queue_laws.proofs.reported.reports_are_compared.Goals as goal

pub returns-clause-no_job : goal.returns-clause-no_job
returns-clause-no_job c = no_job

pub returns-clause-job : goal.returns-clause-job
returns-clause-job c = found

pub returns-clause-other_kind : goal.returns-clause-other_kind
returns-clause-other_kind c w now r j k is = other_kind w now r j is.job k is.kept

pub returns-clause-other_count : goal.returns-clause-other_count
returns-clause-other_count c w now r j k is = other_count w now r j is.job k is.kept

pub returns-clause-same : goal.returns-clause-same
returns-clause-same c w now r j k is = same w now r j is.job k is.kept
