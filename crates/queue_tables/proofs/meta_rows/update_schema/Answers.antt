use Rattle.sqlite.specs.Held.{state}
use Rattle.queue_tables.proofs.Ending.{on_ok}
use Rattle.queue_tables.proofs.Numbered.{numbers_schema}
use Rattle.queue_tables.proofs.meta_rows.update_schema.Goals as goal

pub returns-clause-done : goal.returns-clause-done
returns-clause-done g c clean =
    on_ok c.write.result _ _ (λ ran n w has. numbers_schema (state g.S.Store c.args.tx.now.conn.now) (state g.S.Store c.write.new.tx.conn.now) ran.0 n w has ran.1)
    (rw c.params-to_sql.ensures at (c.write.ensures.wrote.ran clean))
