use Rattle.device_lines.proofs.Readings.{one_reading}
use Rattle.device_lines.proofs.law.one_line_reading.Goals as goal

pub returns : goal.returns
returns c = one_reading
