-- What of a queue is one caller's own.
use Rattle.std.specs.Prelude.{ℕ, ℤ, List, Option, None, filter, bytes_eq, if◌then◌else◌}
use Rattle.std.specs.FinMap.{FinMap, get}
use Rattle.queue_core.specs.World.{World, Entry, grant_cmp, report_cmp, has_number}
use Rattle.queue_types.specs.declared.event.KeptReport.{KeptReport}

-- of these jobs those of the caller's, with their numbers and documents
abbrev pub own_jobs : List ℕ → List Entry → List Entry
own_jobs u es = filter (λ e. bytes_eq e.row.owner u) es

-- the report of that job and sequence number, where the job is one of these
abbrev pub reports_of : List Entry → FinMap report_cmp KeptReport → ℕ → ℕ → Option KeptReport
reports_of es kept n seq = if has_number n es then get kept (n, seq) else None

pub record Own : Type 0 where
  pub jobs : List Entry
  -- the free pages, where the caller has an account
  pub free : Option ℤ
  -- everybody's grants
  pub grants : FinMap grant_cmp ℕ
  -- the reports that are kept of the caller's jobs
  pub reports : ℕ → ℕ → Option KeptReport
  -- the number of the next new job
  pub next : ℕ

abbrev pub own : List ℕ → World → Own
own u w = record {
  jobs = own_jobs u w.jobs;
  free = get w.free u;
  grants = w.grants;
  reports = reports_of (own_jobs u w.jobs) w.reports;
  next = w.next;
}
