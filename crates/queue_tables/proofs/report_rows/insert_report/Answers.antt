use Rattle.sqlite.specs.Held.{state}
use Rattle.queue_tables.proofs.Entrants.{report_enters}
use Rattle.queue_tables.proofs.Making.{made_by}
use Rattle.queue_tables.proofs.Rows.{adds_report}
use Rattle.queue_tables.proofs.report_rows.insert_report.Goals as goal

pub returns-clause-made : goal.returns-clause-made
returns-clause-made g c =
    let old = state g.S.Store c.args.tx.now.conn.now in
    let new = state g.S.Store c.insert.new.tx.conn.now in
    made_by (rw (c.params-to_sql.ensures, c.params-to_sql-2.ensures, c.params-to_sql-3.ensures, c.params-to_sql-4.ensures, c.params-to_sql-5.ensures, c.params-to_sql-6.ensures, c.from-kind.ensures, c.number.ensures, c.from-told.ensures, c.number-2.ensures) at c.insert.ensures.wrote)
    (λ content can has count ran. adds_report old new c.args.kept.now count content has ran)
    (λ content can has refused. report_enters old new c.args.kept.now content has can.0 can.1 refused)
