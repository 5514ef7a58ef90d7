use Rattle.sqlite.specs.Held.{state}
use Rattle.queue_tables.proofs.Entrants.{grant_enters}
use Rattle.queue_tables.proofs.Making.{made_by}
use Rattle.queue_tables.proofs.Rows.{adds_grant}
use Rattle.queue_tables.proofs.grant_rows.insert_grant.Goals as goal

pub returns-clause-made : goal.returns-clause-made
returns-clause-made g c =
    let old = state g.S.Store c.args.tx.now.conn.now in
    let new = state g.S.Store c.insert.new.tx.conn.now in
    made_by (rw (c.params-to_sql.ensures, c.params-to_sql-2.ensures, c.params-to_sql-3.ensures, c.as_str.ensures, c.as_str-2.ensures) at c.insert.ensures.wrote)
    (λ content can has count ran. adds_grant old new c.args.grant.now count content has ran)
    (λ content can has refused. grant_enters old new c.args.grant.now content has can.0 can.1 refused)
