use Rattle.sqlite.specs.Held.{state}
use Rattle.queue_tables.proofs.Entrants.{operator_enters}
use Rattle.queue_tables.proofs.Making.{made_by}
use Rattle.queue_tables.proofs.Rows.{adds_operator}
use Rattle.queue_tables.proofs.operator_rows.insert_operator.Goals as goal

pub returns-clause-made : goal.returns-clause-made
returns-clause-made g c =
    let old = state g.S.Store c.args.tx.now.conn.now in
    let new = state g.S.Store c.insert.new.tx.conn.now in
    made_by (rw c.params-to_sql.ensures at c.insert.ensures.wrote)
    (λ content none has count ran. adds_operator old new c.args.name.now count content has ran)
    (λ content none has refused. operator_enters old new c.args.name.now content has none refused)
