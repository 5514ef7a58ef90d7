use Rattle.sqlite.specs.Held.{state}
use Rattle.queue_tables.proofs.Ending.{on_ok}
use Rattle.queue_tables.proofs.Rows.{adds_policy}
use Rattle.queue_tables.proofs.meta_rows.insert_policy.Goals as goal

pub returns-clause-done : goal.returns-clause-done
returns-clause-done g c clean =
    on_ok c.write.result _ _ (λ ran content has. adds_policy (state g.S.Store c.args.tx.now.conn.now) (state g.S.Store c.write.new.tx.conn.now) c.args.policy.now ran.0 content has ran.1)
    (rw (c.params-to_sql.ensures, c.params-to_sql-2.ensures) at (c.write.ensures.wrote.ran clean))
