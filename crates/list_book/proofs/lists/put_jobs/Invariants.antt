use Rattle.std.proofs.Common.{◌≡◌, ◌≤◌, ◌+◌, length}
use Rattle.std.specs.Prelude.{vec_len, vec_capacity}
use Rattle.std.specs.Vec.Iter.{into_iter_items}
use Rattle.queue_core.specs.Order.{AreRising}
use Rattle.list_book.specs.Lists.{put_rows}
use Rattle.list_book.proofs.lists.put_jobs.Given as goal

abbrev pub invariant-loop-job : goal.invariant-loop-job
invariant-loop-job l =
    (goal.iterator-loop-job).can_next l.job-iterator ×
    (goal.iterator-loop-job).is_finite l.job-iterator ×
    (put_rows l.jobs.items (into_iter_items l.job-iterator) ≡ put_rows l.initial.jobs.items (into_iter_items l.initial.job-iterator)) ×
    (vec_len l.jobs + length (into_iter_items l.job-iterator) ≤ vec_capacity l.jobs) ×
    AreRising (put_rows l.jobs.items (into_iter_items l.job-iterator))
