use Rattle.queue_laws.proofs.Passing.{report_moves}
use Rattle.queue_laws.proofs.charges.reports_move_what_is_owed.Goals as goal

pub returns : goal.returns
returns c w now r j k f turn = report_moves w now r j k f turn.was turn.is
