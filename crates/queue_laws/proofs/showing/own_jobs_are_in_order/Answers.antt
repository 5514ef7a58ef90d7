use Rattle.queue_laws.proofs.InOrder.{each_shown, completed_shown, live_shown}
use Rattle.queue_laws.proofs.showing.own_jobs_are_in_order.Goals as goal

pub returns-clause-each : goal.returns-clause-each
returns-clause-each c = each_shown c.get_jobs_in_order.ensures.completed_all c.get_jobs_in_order.ensures.live_all

pub returns-clause-completed : goal.returns-clause-completed
returns-clause-completed c = completed_shown c.get_jobs_in_order.ensures.completed_newest

pub returns-clause-not_completed : goal.returns-clause-not_completed
returns-clause-not_completed c = live_shown c.get_jobs_in_order.ensures.live_by_rank
