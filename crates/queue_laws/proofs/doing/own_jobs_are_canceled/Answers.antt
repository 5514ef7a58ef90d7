use Rattle.queue_laws.proofs.OnMine.{all_as_one, all_done}
use Rattle.queue_laws.proofs.doing.own_jobs_are_canceled.Goals as goal

pub returns-clause-all : goal.returns-clause-all
returns-clause-all c = λ w now n caller sound may. all_as_one w now caller sound n may

pub returns-clause-done : goal.returns-clause-done
returns-clause-done c = all_done
