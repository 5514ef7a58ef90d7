use Rattle.queue_laws.proofs.OnRelease.{is_released, fewer_refused, none_refused, free_to_print, begun_released, ended_refused}
use Rattle.queue_laws.proofs.doing.held_jobs_are_released.Goals as goal

pub returns-clause-released : goal.returns-clause-released
returns-clause-released c = is_released

pub returns-clause-fewer : goal.returns-clause-fewer
returns-clause-fewer c = fewer_refused

pub returns-clause-none : goal.returns-clause-none
returns-clause-none c = none_refused

pub returns-clause-ready : goal.returns-clause-ready
returns-clause-ready c = free_to_print

pub returns-clause-begun : goal.returns-clause-begun
returns-clause-begun c = begun_released

pub returns-clause-ended : goal.returns-clause-ended
returns-clause-ended c = ended_refused
