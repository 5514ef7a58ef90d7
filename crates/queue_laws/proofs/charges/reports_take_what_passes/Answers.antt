use Rattle.queue_laws.proofs.Passing.{report_passes}
use Rattle.queue_laws.proofs.charges.reports_take_what_passes.Goals as goal

pub returns : goal.returns
returns c w now r j k f g turn = report_passes w now r j k f g turn.was turn.is
