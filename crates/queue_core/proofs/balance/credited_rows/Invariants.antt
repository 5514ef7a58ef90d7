use Rattle.std.proofs.Common.{◌≡◌, map, take}
use Rattle.queue_core.specs.Machine.{credited}
use Rattle.queue_core.proofs.balance.credited_rows.Given as goal

abbrev pub invariant-loop-row : goal.invariant-loop-row
invariant-loop-row l = l.rows.items ≡ map (credited l.before l.after) (take l.row-index l.free)
