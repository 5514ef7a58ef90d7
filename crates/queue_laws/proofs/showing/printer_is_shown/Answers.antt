use Rattle.queue_laws.proofs.OfPrinter.{printer_shown}
use Rattle.queue_laws.proofs.showing.printer_is_shown.Goals as goal

pub returns : goal.returns
returns c = printer_shown
