use Rattle.std.proofs.Common.{◌≡◌, Ok, take}
use Rattle.std.specs.Prelude.{⊤}
use Rattle.sqlite.specs.Held.{state}
use Rattle.queue_tables.specs.Making.{MakesQueue}
use Rattle.queue_tables.specs.Steps.{CanPut, with_puts}
use Rattle.queue_tables.proofs.put.put_jobs.Given as goal

abbrev pub invariant-loop-job : goal.invariant-loop-job
invariant-loop-job g l =
    let first = state g.S.Store l.fn.tx.conn.now in
    let now = state g.S.Store l.tx.conn.now in
    (l.tx.conn.ghost_name ≡ l.fn.tx.conn.ghost_name) × MakesQueue {T = ⊤} first now (Ok tt) (CanPut l.fn.jobs) (with_puts (take l.job-index l.fn.jobs))
