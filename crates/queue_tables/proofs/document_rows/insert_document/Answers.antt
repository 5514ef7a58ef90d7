use Rattle.sqlite.specs.Held.{state}
use Rattle.queue_types.specs.Formats.{format_name}
use Rattle.queue_tables.proofs.Entrants.{document_enters}
use Rattle.queue_tables.proofs.Making.{made_by}
use Rattle.queue_tables.proofs.Rows.{adds_document}
use Rattle.queue_tables.proofs.document_rows.insert_document.Goals as goal

pub returns-clause-made : goal.returns-clause-made
returns-clause-made g c =
    let old = state g.S.Store c.args.tx.now.conn.now in
    let new = state g.S.Store c.insert.new.tx.conn.now in
    let d = c.args.document.now in
    made_by (rw (c.params-to_sql.ensures, c.params-to_sql-2.ensures, c.params-to_sql-3.ensures, c.params-to_sql-4.ensures, c.name.ensures.name) at c.insert.ensures.wrote)
    (λ content can has count ran. adds_document old new d.job d.doc (format_name d.format) d.octets count content has ran)
    (λ content can has refused. document_enters old new d.job d.doc (format_name d.format) d.octets content has can.0 can.1 refused)
