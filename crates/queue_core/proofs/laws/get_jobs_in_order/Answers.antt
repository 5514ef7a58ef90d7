use Rattle.queue_core.proofs.Orders.{sum-by_end, newest_first, sum-by_state, by_rank}
use Rattle.std.proofs.Common.{cond}
use Rattle.queue_core.proofs.laws.get_jobs_in_order.Goals as goal

pub returns-clause-completed_all : goal.returns-clause-completed_all
returns-clause-completed_all c = λ p js. sum-by_end (λ j. cond (p j) 1 0) js

pub returns-clause-completed_newest : goal.returns-clause-completed_newest
returns-clause-completed_newest c = newest_first

pub returns-clause-live_all : goal.returns-clause-live_all
returns-clause-live_all c = λ p js live. sum-by_state (λ j. cond (p j) 1 0) js live

pub returns-clause-live_by_rank : goal.returns-clause-live_by_rank
returns-clause-live_by_rank c = by_rank
