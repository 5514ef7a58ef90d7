use Rattle.std.proofs.Common.{rules}
use Rattle.queue_load.proofs.RowByRow.{bad_row, last_row, no_row, one_row}
use Rattle.queue_load.proofs.table.read_next.Goals as goal

pub returns-in_err-row-clause-reads : goal.returns-in_err-row-clause-reads
returns-in_err-row-clause-reads g c =
    let moved = rw c.in_err-row.was at c.next.follows.holds-at-none in
    let reads = no_row g.S.Store g.T.TableRow.tells g.T.TableRow.is_formless c.args.rows.now c.next.follows.lender-at-none c.in_err-row.field-0.0 c.from_residual.result c.from_residual.ensures.1 moved in
    search (rules, reads)

pub returns-in_default-clause-reads : goal.returns-in_default-clause-reads
returns-in_default-clause-reads g c =
    let moved = rw (c.in_ok-row.was, c.in_default.is) at c.next.follows.holds-at-none in
    let reads = last_row g.S.Store g.T.TableRow.tells g.T.TableRow.is_formless c.args.rows.now c.next.follows.lender-at-none moved in
    search (rules, reads)

pub returns-in_err-read-clause-reads : goal.returns-in_err-read-clause-reads
returns-in_err-read-clause-reads g c =
    let moved = rw (c.in_ok-row.was, c.in-Some.is) at c.next.follows.holds-at-none in
    let reads = bad_row g.S.Store g.T.TableRow.tells g.T.TableRow.is_formless c.args.rows.now c.next.follows.lender-at-none c.in-Some.row c.in_err-read.field-0.0 c.from_residual-in_err-read.result c.from_residual-in_err-read.ensures.1 c.in_err-read.ensures.err moved in
    search (rules, reads)

pub returns-clause-reads : goal.returns-clause-reads
returns-clause-reads g c =
    let moved = rw (c.in_ok-row.was, c.in-Some.is) at c.next.follows.holds-at-none in
    let reads = one_row g.S.Store g.T.TableRow.tells g.T.TableRow.is_formless c.args.rows.now c.next.follows.lender-at-none c.in-Some.row c.in_ok-read.field-0 c.in_ok-read.ensures.ok moved in
    search (rules, reads)
