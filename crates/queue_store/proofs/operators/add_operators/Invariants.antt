use Rattle.std.proofs.Common.{◌≡◌, Ok, take}
use Rattle.std.specs.Prelude.{⊤}
use Rattle.sqlite.specs.Held.{state}
use Rattle.sqlite.specs.State.{HasCleanDisk}
use Rattle.queue_store.specs.New.{with_operator_rows}
use Rattle.queue_tables.specs.Content.{Content, Holds}
use Rattle.queue_tables.specs.Leaving.{StaysInside}
use Rattle.queue_tables.specs.Steps.{without_operators}
use Rattle.queue_tables.specs.declared.fault.Fault.{Fault}
use Rattle.queue_store.proofs.operators.add_operators.Given as goal

abbrev pub invariant-loop-i : goal.invariant-loop-i
invariant-loop-i g l =
    let first = state g.S.Store l.fn.tx.conn.now in
    let now = state g.S.Store l.tx.conn.now in
    (l.tx.conn.ghost_name ≡ l.fn.tx.conn.ghost_name)
    × StaysInside {T = ⊤} {E = Fault} first now (Ok tt)
    × (HasCleanDisk now → (c : Content) → Holds (without_operators c) first → Holds (with_operator_rows (take l.i l.operators) c) now)
