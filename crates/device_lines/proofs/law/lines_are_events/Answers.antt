use Rattle.device_lines.proofs.Tellings.{one_telling, told_fits, told_after}
use Rattle.device_lines.proofs.law.lines_are_events.Goals as goal

pub returns-clause-one : goal.returns-clause-one
returns-clause-one c = one_telling

pub returns-clause-within : goal.returns-clause-within
returns-clause-within c = told_fits

pub returns-clause-done : goal.returns-clause-done
returns-clause-done c = told_after
