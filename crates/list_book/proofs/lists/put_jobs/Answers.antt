use Rattle.std.specs.Vec.Iter.{into_iter_items}
use Rattle.list_book.proofs.ByNumber.{rose_before}
use Rattle.list_book.proofs.lists.put_jobs.Goals as goal

pub put_job-requires-clause-rising : goal.put_job-requires-clause-rising
put_job-requires-clause-rising c = rose_before (into_iter_items c.loop-job.job-iterator) c.loop-job.jobs.items c.loop-job.invariant.4
