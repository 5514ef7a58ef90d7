use Rattle.queue_store.proofs.Closing.{left_one_of, left_queue}
use Rattle.queue_store.proofs.open.TableBook+FileStore+D.into_files.Goals as goal

pub returns-clause-left : goal.returns-clause-left
returns-clause-left g c clean =
    let taken = c.take_files.ensures in
    left_queue c.args.self c.take_files.result (taken.left clean) g.met.D.Disk.seen_may_stay (taken.clean clean)

pub returns-clause-crash : goal.returns-clause-crash
returns-clause-crash g c clean = left_one_of c.args.self c.take_files.result (c.take_files.ensures.left clean)
