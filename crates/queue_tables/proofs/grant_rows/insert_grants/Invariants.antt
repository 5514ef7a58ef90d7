use Rattle.std.proofs.Common.{◌≡◌, Ok, take}
use Rattle.std.specs.Prelude.{⊤}
use Rattle.sqlite.specs.Held.{state}
use Rattle.queue_tables.specs.Making.{MakesQueue}
use Rattle.queue_tables.specs.Steps.{CanGrant, with_grants}
use Rattle.queue_tables.proofs.grant_rows.insert_grants.Given as goal

abbrev pub invariant-loop-grant : goal.invariant-loop-grant
invariant-loop-grant g l =
    let first = state g.S.Store l.fn.tx.conn.now in
    let now = state g.S.Store l.tx.conn.now in
    (l.tx.conn.ghost_name ≡ l.fn.tx.conn.ghost_name) × MakesQueue {T = ⊤} first now (Ok tt) (CanGrant l.fn.grants) (with_grants (take l.grant-index l.fn.grants))
