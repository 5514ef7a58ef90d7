use Rattle.std.proofs.Common.{[], ◌∷◌, rules}
use Rattle.queue_tables.specs.Values.{number}
use Rattle.queue_shown.proofs.RowByRow.{begun_sent, not_begun}
use Rattle.queue_shown.proofs.send.send_pieces.Goals as goal

pub returns-in_err-rows : goal.returns-in_err-rows
returns-in_err-rows g c =
    let refused = rw (c.in_err-rows.was, c.params-to_sql.ensures, c.params-to_sql-2.ensures) at c.query.follows.holds-at-none in
    let sends = not_begun g.S.Store (number c.args.job ∷ number c.args.doc ∷ []) c.args.conn.now c.from_residual.result (g.W.Write.contents c.args.out.now) c.query.follows.lender-at-none c.in_err-rows.field-0.0 c.args.written.now c.from_residual.ensures.1 c.requires refused in
    record { sends = search (rules, sends) }

pub returns : goal.returns
returns g c =
    let begun = rw (c.params-to_sql.ensures, c.params-to_sql-2.ensures) at c.in_ok-rows.ensures.begun in
    let survives = rw (c.params-to_sql.ensures, c.params-to_sql-2.ensures) at c.in_ok-rows.ensures.survives in
    let sends = begun_sent g.S.Store (number c.args.job ∷ number c.args.doc ∷ []) c.args.conn.now c.send_rows.result (g.W.Write.contents c.args.out.now) c.in_ok-rows.rows.conn.now c.send_rows.new.rows.conn.now
    (g.W.Write.contents c.send_rows.new.out) c.send_rows.new.written begun c.in_ok-rows.ensures.mode survives c.send_rows.ensures.sends in
    record { sends = search (rules, sends) }
