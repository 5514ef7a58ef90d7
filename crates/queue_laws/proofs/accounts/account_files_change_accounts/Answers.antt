use Rattle.queue_laws.proofs.Filed.{jobs_left, next_left, reports_left, grants_but, accounts_but}
use Rattle.queue_laws.proofs.accounts.account_files_change_accounts.Goals as goal

pub returns-clause-jobs : goal.returns-clause-jobs
returns-clause-jobs c = jobs_left

pub returns-clause-next : goal.returns-clause-next
returns-clause-next c = next_left

pub returns-clause-reports : goal.returns-clause-reports
returns-clause-reports c = reports_left

pub returns-clause-other_grants : goal.returns-clause-other_grants
returns-clause-other_grants c = grants_but

pub returns-clause-other_accounts : goal.returns-clause-other_accounts
returns-clause-other_accounts c = accounts_but
