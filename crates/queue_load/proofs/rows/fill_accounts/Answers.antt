use Rattle.queue_load.proofs.Telling.{both, hands_on, tells}
use Rattle.queue_load.proofs.rows.fill_accounts.Goals as goal

pub returns-in_err-rows-2-clause-reads : goal.returns-in_err-rows-2-clause-reads
returns-in_err-rows-2-clause-reads g c = hands_on _ c.in_err-rows-2.field-0.0 c.from_residual-in_err-rows-2.ensures.1 (both _ c.in_ok-rows.ensures.reads c.in_err-rows-2.ensures.reads) (λ all. all.grants)

pub returns-in_err-rows-3-clause-reads : goal.returns-in_err-rows-3-clause-reads
returns-in_err-rows-3-clause-reads g c =
    hands_on _ c.in_err-rows-3.field-0.0 c.from_residual-in_err-rows-3.ensures.1 (both _ (both _ c.in_ok-rows.ensures.reads c.in_ok-rows-2.ensures.reads) c.in_err-rows-3.ensures.reads) (λ all. all.reports)

pub returns-in_err-rows-4-clause-reads : goal.returns-in_err-rows-4-clause-reads
returns-in_err-rows-4-clause-reads g c =
    hands_on _ c.in_err-rows-4.field-0.0 c.from_residual-in_err-rows-4.ensures.1 (both _ (both _ (both _ c.in_ok-rows.ensures.reads c.in_ok-rows-2.ensures.reads) c.in_ok-rows-3.ensures.reads) (c.in_err-rows-4.ensures.reads (λ clean. (c.in_ok-rows-3.ensures.reads.same clean).0.is_open))) (λ all. all.policy)

pub returns-in_err-rows-5-clause-reads : goal.returns-in_err-rows-5-clause-reads
returns-in_err-rows-5-clause-reads g c =
    let policy = c.in_ok-rows-4.ensures.reads (λ clean. (c.in_ok-rows-3.ensures.reads.same clean).0.is_open) in
    hands_on _ c.in_err-rows-5.field-0.0 c.from_residual-in_err-rows-5.ensures.1
    (both _ (both _ (both _ (both _ c.in_ok-rows.ensures.reads c.in_ok-rows-2.ensures.reads) c.in_ok-rows-3.ensures.reads) policy) (c.in_err-rows-5.ensures.reads (λ clean. (policy.same clean).0.is_open))) (λ all. all.operators)

pub returns-clause-reads : goal.returns-clause-reads
returns-clause-reads g c =
    let policy = c.in_ok-rows-4.ensures.reads (λ clean. (c.in_ok-rows-3.ensures.reads.same clean).0.is_open) in
    tells (both _ (both _ (both _ (both _ c.in_ok-rows.ensures.reads c.in_ok-rows-2.ensures.reads) c.in_ok-rows-3.ensures.reads) policy) (c.in_ok-rows-5.ensures.reads (λ clean. (policy.same clean).0.is_open)))
    (λ read. record { accounts = read.0.0.0.0; grants = read.0.0.0.1; reports = read.0.0.1; policy = read.0.1; operators = read.1 })
