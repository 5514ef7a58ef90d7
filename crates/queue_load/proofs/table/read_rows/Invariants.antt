use Rattle.std.proofs.Common.{◌≡◌}
use Rattle.queue_load.proofs.RowByRow.{HasReadFront}
use Rattle.queue_load.proofs.table.read_rows.Given as goal

-- the items tell of the rows given so far
abbrev pub invariant-rows : goal.invariant-rows
invariant-rows g l = record {
  same_reference : l.rows.conn.ghost_name ≡ l.initial.rows.conn.ghost_name;
  front : HasReadFront g.S.Store g.T.TableRow.tells l.initial.rows.conn.now l.rows.conn.now l.items;
}
