use Rattle.queue_laws.proofs.Telling.{first_kept, first_state, first_counted}
use Rattle.queue_laws.proofs.device.accepted_reports_are_kept.Goals as goal

pub returns-clause-kept : goal.returns-clause-kept
returns-clause-kept c = first_kept

pub returns-clause-told : goal.returns-clause-told
returns-clause-told c = first_state

pub returns-clause-counted : goal.returns-clause-counted
returns-clause-counted c = first_counted
