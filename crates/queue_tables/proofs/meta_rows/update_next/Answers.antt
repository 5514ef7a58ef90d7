use Rattle.sqlite.specs.Held.{state}
use Rattle.std.proofs.Common.{[], ◌∷◌}
use Rattle.queue_tables.specs.Content.{content_of}
use Rattle.queue_tables.specs.Values.{number}
use Rattle.queue_tables.proofs.Frees.{puts_next}
use Rattle.queue_tables.proofs.Making.{made_by}
use Rattle.queue_tables.proofs.Opened.{held_others}
use Rattle.queue_tables.proofs.Renewing.{next_stands}
use Rattle.queue_tables.proofs.Statements.{update_next_text}
use Rattle.queue_tables.proofs.meta_rows.update_next.Goals as goal

pub returns-clause-made : goal.returns-clause-made
returns-clause-made g c =
    let old = state g.S.Store c.args.tx.now.conn.now in
    let new = state g.S.Store c.write.new.tx.conn.now in
    made_by (rw c.params-to_sql.ensures at c.write.ensures.wrote)
    (λ w can has count ran. puts_next old new c.args.next count w has ran)
    (λ w can has refused. held_others update_next_text (number c.args.next ∷ []) old new (content_of w) (next_stands old new c.args.next w) refused has)
