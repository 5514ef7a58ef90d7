use Rattle.std.proofs.Common.{◌≡◌, take}
use Rattle.std.specs.Prelude.{filter, ◌==◌}
use Rattle.queue_types.specs.Job.{state}
use Rattle.list_book.proofs.seen.pending.Given as goal

abbrev pub invariant-loop-job : goal.invariant-loop-job
invariant-loop-job l = l.pending.items ≡ filter (λ j. state j == 3) (take l.job-index l.jobs)
