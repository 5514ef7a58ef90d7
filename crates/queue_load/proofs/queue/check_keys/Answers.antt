use Rattle.queue_load.proofs.Telling.{both, hands_on, reads_by}
use Rattle.queue_load.proofs.queue.check_keys.Goals as goal

pub returns-in_err-check_accounts : goal.returns-in_err-check_accounts
returns-in_err-check_accounts g c = record { reads = hands_on _ c.in_err-check_accounts.field-0.0 c.from_residual.ensures.1 c.in_err-check_accounts.ensures.reads (λ all. all.accounts) }

pub returns : goal.returns
returns g c =
    let reads = both c.check_operators.result c.in_ok-check_accounts.ensures.reads (c.check_operators.ensures.reads (λ clean. (c.in_ok-check_accounts.ensures.reads.same clean).0.is_open)) in
    record { reads = reads_by c.check_operators.result reads.leaves reads.same (λ fits. fits) reads.read reads.damaged (λ n schema u keyed. record { accounts = keyed.0; operators = keyed.1 }) (λ n schema bad form. bad form.operators) }
