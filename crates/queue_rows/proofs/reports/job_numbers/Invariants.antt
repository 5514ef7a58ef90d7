use Rattle.std.proofs.Common.{◌≡◌, ℕ, take, nat_eq}
use Rattle.std.specs.HashSet.{contains}
use Rattle.queue_rows.specs.Jobs.{has_number}
use Rattle.queue_rows.proofs.reports.job_numbers.Given as goal

abbrev pub invariant-loop-job : goal.invariant-loop-job
invariant-loop-job l = (n : ℕ) → contains nat_eq l.numbers n ≡ has_number n (take l.job-index l.jobs)
