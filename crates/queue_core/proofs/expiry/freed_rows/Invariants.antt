use Rattle.std.proofs.Common.{◌≡◌, map, take}
use Rattle.queue_core.specs.Machine.{freed}
use Rattle.queue_core.proofs.expiry.freed_rows.Given as goal

abbrev pub invariant-loop-row : goal.invariant-loop-row
invariant-loop-row l = l.rows.items ≡ map (freed l.jobs) (take l.row-index l.free)
