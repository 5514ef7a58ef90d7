use Rattle.queue_store.proofs.migrate.put_schema.Goals as goal

pub returns-in-Ok-clause-done : goal.returns-in-Ok-clause-done
returns-in-Ok-clause-done g c clean = c.in-Ok.ensures.done clean
