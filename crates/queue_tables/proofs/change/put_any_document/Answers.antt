use Rattle.queue_tables.proofs.Making.{made_already}
use Rattle.queue_tables.proofs.change.put_any_document.Goals as goal

pub returns-in-Some-clause-made : goal.returns-in-Some-clause-made
returns-in-Some-clause-made g c = rw c.in-Some.is c.put_document.ensures.made

pub returns-in-None-clause-made : goal.returns-in-None-clause-made
returns-in-None-clause-made g c = rw c.in-None.is (made_already (λ w can has. has))
