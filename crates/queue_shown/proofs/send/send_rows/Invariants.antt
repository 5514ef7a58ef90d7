use Rattle.std.proofs.Common.{◌≡◌}
use Rattle.queue_shown.proofs.RowByRow.{HasSentRows}
use Rattle.queue_shown.proofs.send.send_rows.Given as goal

-- the rows given so far were written
abbrev pub invariant-rows : goal.invariant-rows
invariant-rows g l = record {
  same_reference : l.rows.conn.ghost_name ≡ l.initial.rows.conn.ghost_name;
  so : HasSentRows g.S.Store l.initial.rows.conn.now l.rows.conn.now (g.W.Write.contents l.initial.out) (g.W.Write.contents l.out) l.written;
}
