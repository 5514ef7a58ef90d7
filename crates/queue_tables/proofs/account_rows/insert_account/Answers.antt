use Rattle.sqlite.specs.Held.{state}
use Rattle.std.proofs.Common.{pos}
use Rattle.queue_tables.proofs.Entrants.{account_enters}
use Rattle.queue_tables.proofs.Making.{made_by}
use Rattle.queue_tables.proofs.Rows.{adds_account}
use Rattle.queue_tables.proofs.account_rows.insert_account.Goals as goal

pub returns-clause-made : goal.returns-clause-made
returns-clause-made g c =
    let old = state g.S.Store c.args.tx.now.conn.now in
    let new = state g.S.Store c.insert.new.tx.conn.now in
    let a = c.args.account.now in
    made_by (rw (c.params-to_sql.ensures, c.params-to_sql-2.ensures, c.params-to_sql-3.ensures, c.params-to_sql-4.ensures, c.as_str.ensures) at c.insert.ensures.wrote)
    (λ content none has count ran. adds_account old new a.account a.free (pos 0) (pos 0) count content has ran)
    (λ content none has refused. account_enters old new a.account a.free (pos 0) (pos 0) content has none refused)
