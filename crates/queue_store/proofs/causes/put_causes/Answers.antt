use Rattle.sqlite.specs.Held.{state}
use Rattle.queue_store.proofs.Stopping.{puts_causes}
use Rattle.queue_tables.proofs.Ending.{on_ok}
use Rattle.queue_store.proofs.causes.put_causes.Goals as goal

pub returns-clause-done : goal.returns-clause-done
returns-clause-done g c clean =
    on_ok c.run.result _ _ (λ ran content jobs are has. puts_causes (state g.S.Store c.args.tx.now.conn.now) (state g.S.Store c.run.new.tx.conn.now) ran.0 content jobs are has ran.1) (c.run.ensures.ran clean)
