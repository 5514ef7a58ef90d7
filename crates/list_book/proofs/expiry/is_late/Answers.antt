use Rattle.std.proofs.Common.{rules}
use Rattle.queue_core.specs.World.{has_expired}
use Rattle.list_book.proofs.expiry.is_late.Goals as goal

pub returns-then-kept_until-from : goal.returns-then-kept_until-from
unfolding has_expired
returns-then-kept_until-from c = search rules

pub returns-else-kept_until-from : goal.returns-else-kept_until-from
unfolding has_expired
returns-else-kept_until-from c = search rules
