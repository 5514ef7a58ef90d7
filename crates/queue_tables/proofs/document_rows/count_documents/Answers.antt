use Rattle.std.proofs.Common.{◌≤◌, refl, arith, length, rules}
use Rattle.sqlite.specs.Held.{state}
use Rattle.queue_tables.proofs.Documents.{counts_documents}
use Rattle.queue_tables.proofs.Making.{reads, reads_damage}
use Rattle.queue_tables.proofs.document_rows.count_documents.Goals as goal

pub returns-then-len-clause-reads : goal.returns-then-len-clause-reads
returns-then-len-clause-reads g c =
    reads_damage _ _ _ c.in_ok-found.ensures.stays c.in_ok-found.ensures.shown _ _ refl (λ clean d w few has.
    let it = counts_documents (state g.S.Store c.args.tx.now.conn.now) (state g.S.Store c.select_inside.new.tx.conn.now) c.args.job c.in_ok-found.found.items w few.0 has (rw (c.params-to_sql.ensures) at (c.in_ok-found.ensures.shown clean)) in
    let long : 16 ≤ length c.in_ok-found.found.items = search rules in
    omega (arith, it.0, few.1, long))

pub returns-clause-reads : goal.returns-clause-reads
returns-clause-reads g c =
    reads _ _ _ c.in_ok-found.ensures.stays c.in_ok-found.ensures.shown _ (λ clean w few has.
    let it = counts_documents (state g.S.Store c.args.tx.now.conn.now) (state g.S.Store c.select_inside.new.tx.conn.now) c.args.job c.in_ok-found.found.items w few.0 has (rw (c.params-to_sql.ensures) at (c.in_ok-found.ensures.shown clean)) in
    (search (rules, it.0), it.1))
