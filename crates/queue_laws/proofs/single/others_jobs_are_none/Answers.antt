use Rattle.queue_laws.proofs.OneJob.{named_others, named_own}
use Rattle.queue_laws.proofs.OnOne.{no_job, others_job, own_job}
use Rattle.queue_laws.proofs.single.others_jobs_are_none.Goals as goal

pub returns-clause-none : goal.returns-clause-none
returns-clause-none c = no_job

pub returns-clause-others : goal.returns-clause-others
returns-clause-others c = others_job

pub returns-clause-own : goal.returns-clause-own
returns-clause-own c = own_job

pub returns-clause-named_others : goal.returns-clause-named_others
returns-clause-named_others c = named_others

pub returns-clause-named_own : goal.returns-clause-named_own
returns-clause-named_own c = named_own
