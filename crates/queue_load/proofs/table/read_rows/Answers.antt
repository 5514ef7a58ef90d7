use Rattle.std.proofs.Common.{refl, rules, ◌∙◌}
use Rattle.queue_load.proofs.RowByRow.{all_read, more_read, no_room, none_more, none_read, too_long}
use Rattle.queue_load.proofs.table.read_rows.Goals as goal

pub rows-init : goal.rows-init
rows-init g c = record { same_reference = refl; front = none_read g.S.Store g.T.TableRow.tells c.args.rows.now.conn.now c.new-items.result c.new-items.ensures.items }

pub rows-preserved : goal.rows-preserved
rows-preserved g c = record {
  same_reference = c.read_next.ensures.same_reference ∙ c.rows.invariant.same_reference;
  front = more_read g.S.Store g.T.TableRow.tells g.T.TableRow.is_formless c.args.rows.now.conn.now c.rows.rows.conn.now c.rows.items c.rows.invariant.front c.read_next.new.rows.conn.now c.in-Some.item _ (rw c.in-Some.is at c.in_ok-item.ensures.reads) c.in_ok-push.ensures.items;
}

pub returns-in_err-item-clause-reads : goal.returns-in_err-item-clause-reads
returns-in_err-item-clause-reads g c =
    let reads = none_more g.S.Store g.T.TableRow.tells g.T.TableRow.is_formless c.args.rows.now.conn.now c.rows.rows.conn.now c.rows.items c.rows.invariant.front c.read_next.new.rows.conn.now c.in_err-item.field-0.0 c.from_residual.result c.from_residual.ensures.1 c.in_err-item.ensures.reads in
    search (rules, reads)

pub returns-in_default-clause-reads : goal.returns-in_default-clause-reads
returns-in_default-clause-reads g c =
    let reads = all_read g.S.Store g.T.TableRow.tells g.T.TableRow.is_formless c.args.rows.now.conn.now c.rows.rows.conn.now c.rows.items c.rows.invariant.front c.read_next.new.rows.conn.now (rw c.in_default.is at c.in_ok-item.ensures.reads) in
    search (rules, reads)

pub returns-in_err-push-clause-reads : goal.returns-in_err-push-clause-reads
returns-in_err-push-clause-reads g c =
    let reads = no_room g.S.Store g.T.TableRow.tells g.T.TableRow.is_formless c.args.rows.now.conn.now c.rows.rows.conn.now c.rows.items c.rows.invariant.front c.read_next.new.rows.conn.now c.in-Some.item c.from_residual-in_err-push.result c.from_residual-in_err-push.ensures.1 (rw c.in-Some.is at c.in_ok-item.ensures.reads) in
    search (rules, reads)

pub returns-clause-reads : goal.returns-clause-reads
returns-clause-reads g c =
    let reads = too_long g.S.Store g.T.TableRow.tells g.T.TableRow.is_formless c.args.rows.now.conn.now c.rows.rows.conn.now c.rows.items c.rows.invariant.front in
    search (rules, reads)
