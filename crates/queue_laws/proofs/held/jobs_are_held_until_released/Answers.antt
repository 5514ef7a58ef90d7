use Rattle.queue_laws.proofs.Freed.{held_until_released, held_until_startable}
use Rattle.queue_laws.proofs.held.jobs_are_held_until_released.Goals as goal

pub returns-clause-released : goal.returns-clause-released
returns-clause-released c w now n e j k sound turn held = held_until_released w now n e j k sound turn.was held turn.is

pub returns-clause-startable : goal.returns-clause-startable
returns-clause-startable c w now n e j k sound turn held = held_until_startable w now n e j k sound turn.was held turn.is
