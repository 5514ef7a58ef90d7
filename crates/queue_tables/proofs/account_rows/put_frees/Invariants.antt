use Rattle.std.proofs.Common.{◌≡◌, Ok, take}
use Rattle.std.specs.Prelude.{⊤}
use Rattle.sqlite.specs.Held.{state}
use Rattle.queue_tables.specs.Making.{MakesQueue}
use Rattle.queue_tables.specs.Steps.{AreCovered, with_frees}
use Rattle.queue_tables.proofs.account_rows.put_frees.Given as goal

abbrev pub invariant-loop-account : goal.invariant-loop-account
invariant-loop-account g l =
    let first = state g.S.Store l.fn.tx.conn.now in
    let now = state g.S.Store l.tx.conn.now in
    (l.tx.conn.ghost_name ≡ l.fn.tx.conn.ghost_name) × MakesQueue {T = ⊤} first now (Ok tt) AreCovered (with_frees (take l.account-index l.fn.accounts))
