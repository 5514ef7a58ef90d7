use Rattle.sqlite.specs.Held.{state}
use Rattle.queue_store.proofs.Empty.{made_holds}
use Rattle.queue_store.proofs.Made.{makes_all}
use Rattle.queue_store.proofs.create.create_schema.Goals as goal

pub returns-clause-done : goal.returns-clause-done
returns-clause-done g c clean = λ blank.
    let old = c.args.tx.now.conn.now in
    let new = c.execute_batch.new.self.conn.now in
    let made = makes_all g.S.Store old new blank (c.in_ok-execute_batch.ensures.ran clean) in
    made_holds (state g.S.Store new) made.0 made.1 made.2
