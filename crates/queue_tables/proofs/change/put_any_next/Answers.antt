use Rattle.queue_tables.proofs.change.put_any_next.Goals as goal

pub returns-in-Some-clause-made : goal.returns-in-Some-clause-made
returns-in-Some-clause-made g c = rw c.in-Some.is c.update_next.ensures.made
