use Rattle.std.proofs.Common.{◌≡◌, map, take}
use Rattle.std.specs.Prelude.{filter}
use Rattle.queue_core.specs.Machine.{canceled, is_cancelable}
use Rattle.queue_core.proofs.my_jobs.canceled_jobs.Given as goal

abbrev pub invariant-loop-job : goal.invariant-loop-job
invariant-loop-job l = l.after.items ≡ map (canceled l.now) (filter is_cancelable (take l.job-index l.jobs))
