use Rattle.grants_csv.proofs.Forms.{grant_limits}
use Rattle.grants_csv.proofs.row.read_row.Goals as goal

pub returns-clause-limits : goal.returns-clause-limits
returns-clause-limits c =
    let t = c.in-Some.texts in
    rw (c.in_ok-batch.ensures, c.in_ok-account.ensures) (grant_limits t.batch.now t.account.now t.pages.now c.in-Some-pages_in.pages (rw c.in-Some.ensures.texts at c.in-Some.ensures.form) c.in-Some-pages_in.ensures)
