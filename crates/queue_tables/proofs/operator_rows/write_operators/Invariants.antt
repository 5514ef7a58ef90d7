use Rattle.std.proofs.Common.{◌≡◌, Ok, take}
use Rattle.std.specs.Prelude.{⊤}
use Rattle.sqlite.specs.Held.{state}
use Rattle.queue_tables.specs.Making.{MakesQueue}
use Rattle.queue_tables.specs.Steps.{with_operators}
use Rattle.queue_tables.proofs.operator_rows.write_operators.Given as goal

abbrev pub invariant-loop-i : goal.invariant-loop-i
invariant-loop-i g l =
    let first = state g.S.Store l.fn.tx.conn.now in
    let now = state g.S.Store l.tx.conn.now in
    (l.tx.conn.ghost_name ≡ l.fn.tx.conn.ghost_name) × MakesQueue {T = ⊤} first now (Ok tt) (λ w. ⊤) (with_operators (take l.i l.operators))
