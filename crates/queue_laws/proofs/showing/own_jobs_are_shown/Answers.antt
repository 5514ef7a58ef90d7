use Rattle.queue_laws.proofs.InOrder.{own_shown}
use Rattle.queue_laws.proofs.showing.own_jobs_are_shown.Goals as goal

pub returns : goal.returns
returns c = own_shown
