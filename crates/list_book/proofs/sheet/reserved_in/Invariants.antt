use Rattle.std.proofs.Common.{◌≡◌, take}
use Rattle.queue_core.specs.Sound.{reserved_for}
use Rattle.list_book.proofs.sheet.reserved_in.Given as goal

abbrev pub invariant-loop-job : goal.invariant-loop-job
invariant-loop-job l = l.pages ≡ reserved_for l.account (take l.job-index l.jobs)
