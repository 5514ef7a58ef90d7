-- A printer, by its content.
use Rattle.ipp_reply.specs.declared.printer_reply.PrinterView.{PrinterView}
use Rattle.ipp_reply.specs.PrinterReply.{Printer}

abbrev pub printer_of : PrinterView → Printer
printer_of p = record { settings = p.settings.now; now = p.now; state = p.state; queued = p.queued; accepting = p.accepting }
