use Rattle.std.proofs.Common.{◌≡◌, take}
use Rattle.queue_types.proofs.job.ListOf+Job.try_clone.Given as goal

abbrev pub invariant-loop-job : goal.invariant-loop-job
invariant-loop-job l = l.jobs.items ≡ take l.job-index l.job-items
