use Rattle.sqlite.specs.Held.{state}
use Rattle.queue_tables.specs.Content.{content_of}
use Rattle.queue_store.proofs.Keeping.{still_keeps}
use Rattle.queue_tables.proofs.Leaving.{held_by}
use Rattle.queue_store.proofs.queue_book.TableBookQueueBook.pending.Goals as goal

pub returns-in_err-pending-clause-kept : goal.returns-in_err-pending-clause-kept
returns-in_err-pending-clause-kept g c w stood = still_keeps (state g.S.Store c.args.self.now.conn) (state g.S.Store c.pending.new.conn) c.args.self.now.settings w c.in_err-pending.ensures.reads.leaves stood

pub returns-clause-kept : goal.returns-clause-kept
returns-clause-kept g c w stood = still_keeps (state g.S.Store c.args.self.now.conn) (state g.S.Store c.pending.new.conn) c.args.self.now.settings w c.in_ok-pending.ensures.reads.leaves stood

pub returns-clause-jobs : goal.returns-clause-jobs
returns-clause-jobs g c honest w stands =
    let now = stands honest in
    c.in_ok-pending.ensures.reads.found honest w now.sound (held_by c.in_ok-pending.ensures.reads.leaves honest (content_of w) (now.holds (c.in_ok-pending.ensures.live honest)))

pub returns-in_err-pending-clause-left : goal.returns-in_err-pending-clause-left
returns-in_err-pending-clause-left g c honest v w left db may = left db (c.in_err-pending.ensures.reads.leaves.left honest db may)

pub returns-clause-left : goal.returns-clause-left
returns-clause-left g c honest v w left db may = left db (c.in_ok-pending.ensures.reads.leaves.left honest db may)
