use Rattle.sqlite.specs.Held.{state}
use Rattle.queue_tables.proofs.Ending.{on_ok}
use Rattle.queue_tables.proofs.Rows.{adds_meta}
use Rattle.queue_tables.proofs.meta_rows.insert_meta.Goals as goal

pub returns-clause-done : goal.returns-clause-done
returns-clause-done g c clean =
    on_ok c.write.result _ _ (λ ran content has. adds_meta (state g.S.Store c.args.tx.now.conn.now) (state g.S.Store c.write.new.tx.conn.now) c.args.meta.now ran.0 content has ran.1)
    (rw (c.params-to_sql.ensures, c.params-to_sql-2.ensures, c.params-to_sql-3.ensures, c.params-to_sql-4.ensures, c.params-to_sql-5.ensures, c.params-to_sql-6.ensures, c.params-to_sql-7.ensures, c.as_str.ensures, c.as_str-2.ensures) at (c.write.ensures.wrote.ran clean))
