use Rattle.sqlite.specs.Held.{state}
use Rattle.queue_tables.proofs.Making.{made_by}
use Rattle.queue_tables.proofs.OperatorRows.{removes_operators}
use Rattle.queue_tables.proofs.operator_rows.delete_operators.Goals as goal

pub returns-clause-made : goal.returns-clause-made
returns-clause-made g c =
    let old = state g.S.Store c.args.tx.now.conn.now in
    let new = state g.S.Store c.write_unconstrained.new.tx.conn.now in
    made_by c.write_unconstrained.ensures.wrote (λ content can has count ran. removes_operators old new count content has ran) (λ content can has refused. refused)
