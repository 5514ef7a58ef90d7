use Rattle.std.proofs.Common.{◌≡◌, ◌≤◌, ◌+◌, drop, length}
use Rattle.queue_core.specs.Grants.{take_rows}
use Rattle.queue_core.specs.Tally.{IsTallied}
use Rattle.queue_core.proofs.grants.take_rows.Given as goal

abbrev pub invariant-loop-i : goal.invariant-loop-i
invariant-loop-i l = record {
  tallied : IsTallied l.tally;
  repeats : l.repeats ≤ l.i;
  few : length l.tally.rows.items + l.repeats ≤ length l.fn.tally.rows.items + l.i;
  rest : take_rows (drop l.i l.rows) (drop l.i l.known) (1 + l.i) l.tally.rows.items l.tally.free.items l.repeats ≡ take_rows l.rows l.known 1 l.fn.tally.rows.items l.fn.tally.free.items 0;
}
