use Rattle.queue_laws.proofs.Bounds.{granted_below, reserved_below, printed_below}
use Rattle.queue_laws.proofs.sums.sums_are_bounded.Goals as goal

pub returns-clause-granted : goal.returns-clause-granted
returns-clause-granted c = granted_below

pub returns-clause-reserved : goal.returns-clause-reserved
returns-clause-reserved c = reserved_below

pub returns-clause-printed : goal.returns-clause-printed
returns-clause-printed c = printed_below
