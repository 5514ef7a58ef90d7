use Rattle.std.proofs.Common.{◌≡◌, take}
use Rattle.std.specs.Prelude.{filter}
use Rattle.queue_core.specs.World.{has_expired}
use Rattle.list_book.proofs.expiry.expired_in.Given as goal

abbrev pub invariant-loop-job : goal.invariant-loop-job
invariant-loop-job l = l.late.items ≡ filter (has_expired l.keep l.now) (take l.job-index l.jobs)
