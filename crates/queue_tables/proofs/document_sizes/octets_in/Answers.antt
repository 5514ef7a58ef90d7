use Rattle.std.proofs.Common.{◌<◌, length, ap, sym, subst, ◌∙◌, arith}
use Rattle.sqlite.specs.Order.{Row, column}
use Rattle.queue_tables.proofs.Ending.{err_after}
use Rattle.queue_tables.proofs.document_sizes.octets_in.Goals as goal

pub returns-in_err-size-clause-damaged : goal.returns-in_err-size-clause-damaged
returns-in_err-size-clause-damaged c all =
    let at = all c.loop-row.row-index c.row-item.result c.loop-row-test.true in
    let is = c.row-item.is ∙ at.2 in
    err_after _ c.in_err-size.field-0.0 ⊥ c.from_residual.ensures.1 (λ d. c.in_err-size.ensures.err d (subst (λ (r : Row). 0 < length r) (sym is) (omega arith)) (at.0, ap (λ (r : Row). column r 0) is, at.1))
