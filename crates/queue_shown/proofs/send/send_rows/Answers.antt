use Rattle.std.proofs.Common.{refl, ◌∙◌, rules}
use Rattle.queue_shown.proofs.RowByRow.{cut_off, more_sent, no_more, no_row, none_sent, too_long}
use Rattle.queue_shown.proofs.send.send_rows.Goals as goal

pub rows-init : goal.rows-init
rows-init g c = record { same_reference = refl; so = none_sent g.S.Store c.args.rows.now.conn.now (g.W.Write.contents c.args.out.now) c.args.written.now c.requires }

pub rows-preserved : goal.rows-preserved
rows-preserved g c =
    let moved = rw (c.in_ok-row.was, c.in-Some.is) at c.next.follows.holds-at-none in
    record {
      same_reference = c.next.follows.holds-at-none.same_reference ∙ c.rows.invariant.same_reference;
      so = more_sent g.S.Store c.args.rows.now.conn.now c.rows.rows _ _ _ c.rows.invariant.so c.next.follows.lender-at-none c.in-Some.row moved _ _ c.in_ok-put_piece.ensures.ok;
    }

pub returns-in_err-row-clause-sends : goal.returns-in_err-row-clause-sends
returns-in_err-row-clause-sends g c =
    let moved = rw c.in_err-row.was at c.next.follows.holds-at-none in
    let sends = no_row g.S.Store c.args.rows.now.conn.now c.rows.rows (g.W.Write.contents c.args.out.now) (g.W.Write.contents c.rows.out) c.rows.written c.rows.invariant.so c.next.follows.lender-at-none c.in_err-row.field-0.0 c.from_residual.result c.from_residual.ensures.1 moved in
    search (rules, sends)

pub returns-in_default-clause-sends : goal.returns-in_default-clause-sends
returns-in_default-clause-sends g c =
    let moved = rw (c.in_ok-row.was, c.in_default.is) at c.next.follows.holds-at-none in
    let sends = no_more g.S.Store c.args.rows.now.conn.now c.rows.rows (g.W.Write.contents c.args.out.now) (g.W.Write.contents c.rows.out) c.rows.written c.rows.invariant.so c.next.follows.lender-at-none (tt {0}) moved in
    search (rules, sends)

pub returns-in_err-put_piece-clause-sends : goal.returns-in_err-put_piece-clause-sends
returns-in_err-put_piece-clause-sends g c =
    let moved = rw (c.in_ok-row.was, c.in-Some.is) at c.next.follows.holds-at-none in
    let sends = cut_off g.S.Store c.args.rows.now.conn.now c.rows.rows (g.W.Write.contents c.args.out.now) (g.W.Write.contents c.rows.out) c.rows.written c.rows.invariant.so c.next.follows.lender-at-none c.in-Some.row moved (g.W.Write.contents c.put_piece.new.out) c.put_piece.new.written c.in_err-put_piece.field-0.0 c.from_residual-in_err-put_piece.result c.from_residual-in_err-put_piece.ensures.1 c.in_err-put_piece.ensures.damaged c.in_err-put_piece.ensures.err in
    search (rules, sends)

pub returns-clause-sends : goal.returns-clause-sends
returns-clause-sends g c =
    let sends = too_long g.S.Store c.args.rows.now.conn.now c.rows.rows (g.W.Write.contents c.args.out.now) (g.W.Write.contents c.rows.out) c.rows.written c.rows.invariant.so {T = Unit {0}} in
    search (rules, sends)
