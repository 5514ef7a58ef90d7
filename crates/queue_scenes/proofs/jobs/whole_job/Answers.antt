use Rattle.std.proofs.Common.{◌≡◌, ℕ, Some, sym, subst, ap}
use Rattle.queue_core.specs.World.{job_at, rows}
use Rattle.queue_tables.proofs.Ending.{err_after}
use Rattle.queue_tables.proofs.Formed.{sound_job}
use Rattle.queue_tables.proofs.JobPut.{counted_job}
use Rattle.queue_types.specs.declared.job.Job.{Job}
use Rattle.queue_scenes.proofs.jobs.whole_job.Goals as goal

pub returns-clause-found : goal.returns-clause-found
returns-clause-found g c clean w k sound has there is =
    let read = c.in_ok-job.ensures.read k is in
    let number : c.in_ok-job.job.number ≡ k.number = ap (λ (j : Job). j.number) read in
    let sizes = c.in_ok-sizes.ensures.found clean w k sound has (subst (λ (n : ℕ). job_at n (rows w) ≡ Some k) (sym number) there) in
    counted_job c.in_ok-job.job k c.in_ok-sizes.sizes.documents c.in_ok-sizes.sizes.octets read sizes.0 sizes.1

pub returns-in_err-job-clause-damaged : goal.returns-in_err-job-clause-damaged
returns-in_err-job-clause-damaged g c clean = err_after _ c.in_err-job.field-0.0 _ c.from_residual.ensures.1 (λ d w k sound has there is.
    c.in_err-job.ensures.damaged d k (sound_job k.number w k sound there) is)

pub returns-in_err-sizes-clause-damaged : goal.returns-in_err-sizes-clause-damaged
returns-in_err-sizes-clause-damaged g c clean = err_after _ c.in_err-sizes.field-0.0 _ c.from_residual-in_err-sizes.ensures.1 (λ d w k sound has there is.
    let number : c.in_ok-job.job.number ≡ k.number = ap (λ (j : Job). j.number) (c.in_ok-job.ensures.read k is) in
    c.in_err-sizes.ensures.damaged clean d w k sound has (subst (λ (n : ℕ). job_at n (rows w) ≡ Some k) (sym number) there))
