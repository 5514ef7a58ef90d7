-- What a line of the form says, before its numbers are looked at.
use Rattle.queue_types.specs.declared.event.Report.{Report}
use Rattle.device_lines.specs.declared.line.Form.{Form}

-- as a report, whose numbers may be past the limits
abbrev pub report_of : Form → Report
report_of f = record { job = f.job; seq = f.seq; kind = f.kind; count = f.count }
