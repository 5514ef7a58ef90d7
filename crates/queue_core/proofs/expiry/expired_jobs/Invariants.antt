use Rattle.std.proofs.Common.{◌≡◌, map, take}
use Rattle.queue_core.specs.Machine.{expired}
use Rattle.queue_core.proofs.expiry.expired_jobs.Given as goal

abbrev pub invariant-loop-job : goal.invariant-loop-job
invariant-loop-job l = l.after.items ≡ map (expired l.now) (take l.job-index l.jobs)
