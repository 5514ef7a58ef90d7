use Rattle.queue_laws.proofs.OnSend.{is_added, closed_refused, other_state_refused, full_refused}
use Rattle.queue_laws.proofs.doing.documents_are_added.Goals as goal

pub returns-clause-added : goal.returns-clause-added
returns-clause-added c = is_added

pub returns-clause-closed : goal.returns-clause-closed
returns-clause-closed c = closed_refused

pub returns-clause-elsewhere : goal.returns-clause-elsewhere
returns-clause-elsewhere c = other_state_refused

pub returns-clause-full : goal.returns-clause-full
returns-clause-full c = full_refused
