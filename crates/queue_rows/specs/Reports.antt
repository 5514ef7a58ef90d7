-- The rows of kept reports.
use Rattle.std.specs.Prelude.{ℕ, ◌≤◌, List, max, fold, ◌==◌, if◌then◌else◌, Bool}
use Rattle.std.specs.Ordering.{is_lt}
use Rattle.queue_core.specs.Limits.{IsPositive}
use Rattle.queue_core.specs.World.{report_cmp}
use Rattle.queue_types.specs.declared.event.KeptReport.{KeptReport}

-- a kept report within its limits; that its job is there is another matter
pub record IsReportRow (k : KeptReport) : Type 0 where
  pub seq : IsPositive k.report.seq
  pub count : k.report.count ≤ 100000000
  pub total : k.total ≤ 100000000

-- by job, then by sequence number
abbrev pub report_before : KeptReport → KeptReport → Bool
report_before a b = is_lt (report_cmp (a.report.job, a.report.seq) (b.report.job, b.report.seq))

-- the greatest count that was reported of a job, 0 without a report
abbrev pub greatest : ℕ → List KeptReport → ℕ
greatest n rs = fold (λ g r. if n == r.report.job then max g r.report.count else g) 0 rs
