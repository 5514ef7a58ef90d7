use Rattle.sqlite.specs.Held.{state}
use Rattle.queue_tables.proofs.Ending.{on_ok}
use Rattle.queue_tables.proofs.Rows.{adds_operator}
use Rattle.queue_store.proofs.operators.add_operator.Goals as goal

pub returns-clause-done : goal.returns-clause-done
returns-clause-done g c clean =
    on_ok c.run.result _ _ (λ ran content has. adds_operator (state g.S.Store c.args.tx.now.conn.now) (state g.S.Store c.run.new.tx.conn.now) c.args.name.now ran.0 content has ran.1)
    (rw c.params-to_sql.ensures at (c.run.ensures.ran clean))
