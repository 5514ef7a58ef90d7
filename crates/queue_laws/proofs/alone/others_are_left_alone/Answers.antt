use Rattle.queue_laws.proofs.LeftAlone.{jobs_stay, account_stays}
use Rattle.queue_laws.proofs.alone.others_are_left_alone.Goals as goal

pub returns-clause-jobs : goal.returns-clause-jobs
returns-clause-jobs c = jobs_stay

pub returns-clause-account : goal.returns-clause-account
returns-clause-account c = account_stays
