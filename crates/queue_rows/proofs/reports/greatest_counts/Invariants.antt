use Rattle.std.proofs.Common.{◌≡◌, ℕ, take, unwrap_or, nat_eq}
use Rattle.std.specs.HashMap.{get}
use Rattle.queue_rows.specs.Reports.{greatest}
use Rattle.queue_rows.proofs.reports.greatest_counts.Given as goal

abbrev pub invariant-loop-kept : goal.invariant-loop-kept
invariant-loop-kept l = (n : ℕ) → unwrap_or (get nat_eq l.counts n) 0 ≡ greatest n (take l.kept-index l.reports)
