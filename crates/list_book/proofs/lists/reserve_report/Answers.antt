use Rattle.list_book.proofs.Keyed.{same_reports}
use Rattle.list_book.proofs.lists.reserve_report.Goals as goal

pub returns-clause-same : goal.returns-clause-same
returns-clause-same c = same_reports _ _ c.in_ok-reserve.ensures.entries.2
