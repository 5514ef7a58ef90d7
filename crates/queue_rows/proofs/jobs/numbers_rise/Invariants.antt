use Rattle.std.proofs.Common.{drop}
use Rattle.queue_rows.specs.Jobs.{NumbersRise}
use Rattle.queue_rows.proofs.jobs.numbers_rise.Given as goal

abbrev pub invariant-loop-job : goal.invariant-loop-job
invariant-loop-job l = (NumbersRise 1 l.jobs l.next → NumbersRise l.least (drop l.job-index l.jobs) l.next) × (NumbersRise l.least (drop l.job-index l.jobs) l.next → NumbersRise 1 l.jobs l.next)
