use Rattle.std.proofs.Common.{◌≡◌, ◌≤◌, ◌*◌, ℕ, List, take}
use Rattle.std.specs.Fn.{FnReturnsAt}
use Rattle.queue_core.specs.Totals.{TellsAmounts, total, total_in}
use Rattle.queue_core.proofs.totals.totals.Given as goal

abbrev pub invariant-loop-row : goal.invariant-loop-row
invariant-loop-row g l = record {
  sums : (name : _ → List ℕ) (amount : _ → ℕ) → TellsAmounts (FnReturnsAt g.F.Fn l.amount_of) name amount → (q : List ℕ) → total_in l.sums q ≡ total name amount q (take l.row-index l.rows);
  small : (q : List ℕ) → total_in l.sums q ≤ l.row-index * 18446744073709551615;
}
