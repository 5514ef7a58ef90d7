use Rattle.std.proofs.Common.{◌≡◌, drop}
use Rattle.queue_core.specs.World.{owners, owners_after}
use Rattle.list_book.specs.Lists.{texts}
use Rattle.list_book.proofs.expiry.owners_of.Given as goal

abbrev pub invariant-loop-job : goal.invariant-loop-job
invariant-loop-job l = owners_after (texts l.names.items) (drop l.job-index l.jobs) ≡ owners l.jobs
