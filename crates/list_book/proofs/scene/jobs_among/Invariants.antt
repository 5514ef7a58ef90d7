use Rattle.std.proofs.Common.{◌≡◌, take}
use Rattle.std.specs.Prelude.{filter, bytes_eq, ◌&&◌, ◌||◌}
use Rattle.queue_core.specs.Visible.{is_among}
use Rattle.list_book.proofs.scene.jobs_among.Given as goal

abbrev pub invariant-loop-job : goal.invariant-loop-job
invariant-loop-job l = l.among.items ≡ filter (λ j. (l.all || bytes_eq j.owner l.caller) && is_among l.which j) (take l.job-index l.jobs)
