use Rattle.queue_laws.proofs.InOrder.{all_shown, each_of_all}
use Rattle.queue_laws.proofs.OneJob.{shown_any}
use Rattle.queue_laws.proofs.operating.all_jobs_are_shown.Goals as goal

pub returns-clause-list : goal.returns-clause-list
returns-clause-list c = all_shown

pub returns-clause-each : goal.returns-clause-each
returns-clause-each c = each_of_all c.get_jobs_in_order.ensures.completed_all c.get_jobs_in_order.ensures.live_all

pub returns-clause-one : goal.returns-clause-one
returns-clause-one c = shown_any
