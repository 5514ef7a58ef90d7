use Rattle.queue_laws.proofs.Debts.{no_debt}
use Rattle.queue_laws.proofs.charges.requests_leave_no_debt.Goals as goal

pub returns : goal.returns
returns c = no_debt
