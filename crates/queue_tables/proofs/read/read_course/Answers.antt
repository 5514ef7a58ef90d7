use Rattle.std.proofs.Common.{◌≡◌, ap, arith, length}
use Rattle.sqlite.specs.declared.types.Value.{Value}
use Rattle.sqlite.specs.Order.{Row, column}
use Rattle.queue_tables.proofs.Ending.{err_after}
use Rattle.queue_tables.proofs.read.read_course.Goals as goal

pub returns-in_err-phase-clause-err : goal.returns-in_err-phase-clause-err
returns-in_err-phase-clause-err c = err_after _ c.in_err-phase.field-0.0 _ c.from_residual.ensures.1 (λ damaged j formed is.
    let count : length c.args.row.now ≡ 14 = ap (length {A = Value}) is in
    c.in_err-phase.ensures.err damaged (omega (arith, count)) (omega (arith, count)) (omega (arith, count)) j.phase j.stopping (ap (λ (v : Row). column v 7) is) (ap (λ (v : Row). column v 8) is) (ap (λ (v : Row). column v 9) is))
