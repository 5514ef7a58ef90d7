use Rattle.std.proofs.Common.{◌≤◌, ℕ, subst, sym}
use Rattle.queue_rows.proofs.owners.live_jobs_fit.Goals as goal

pub returns : goal.returns
returns c =
    let within = c.are_within.ensures in
    let live = c.in_ok-live.ensures in
    (λ t q. subst (λ (n : ℕ). n ≤ 100) (live q) (within.0 t q), λ all. within.1 (λ q. subst (λ (n : ℕ). n ≤ 100) (sym (live q)) (all q)))
