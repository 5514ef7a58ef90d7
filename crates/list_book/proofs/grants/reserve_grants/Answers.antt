use Rattle.list_book.proofs.Keyed.{same_grants}
use Rattle.list_book.proofs.grants.reserve_grants.Goals as goal

pub returns-clause-same : goal.returns-clause-same
returns-clause-same c = same_grants _ _ c.in_ok-reserve.ensures.entries.2
