use Rattle.std.proofs.Common.{◌≡◌, take}
use Rattle.queue_core.specs.Shown.{charged_to}
use Rattle.list_book.proofs.sheet.sheet_jobs.Given as goal

abbrev pub invariant-loop-job : goal.invariant-loop-job
invariant-loop-job l = l.shown.items ≡ charged_to l.account (take l.job-index l.jobs)
