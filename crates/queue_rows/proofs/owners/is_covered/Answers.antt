use Rattle.std.proofs.Common.{◌≡◌, refl, arith}
use Rattle.queue_rows.specs.Totals.{total_in}
use Rattle.queue_rows.proofs.owners.is_covered.Goals as goal

pub returns-then-total_of-gt0 : goal.returns-then-total_of-gt0
returns-then-total_of-gt0 c =
    let sum : c.total_of.result ≡ total_in c.args.granted.now c.args.job.now.owner = rw c.as_str.ensures at c.total_of.ensures in
    (λ t zero. absurd (omega (arith, sum, zero, c.if-total_of-gt0.true)), λ h. refl)

pub returns : goal.returns
returns c =
    let sum : c.total_of.result ≡ total_in c.args.granted.now c.args.job.now.owner = rw c.as_str.ensures at c.total_of.ensures in
    (λ t zero. c.is_idle.ensures.0 t, λ h. c.is_idle.ensures.1 (h (omega (arith, sum, c.if-total_of-gt0.false))))
