-- A kept report under its key, as its row shows it.
use Rattle.std.specs.Prelude.{◌≤◌, ◌<◌, ◌^◌, [], ◌∷◌}
use Rattle.sqlite.specs.Order.{Row}
use Rattle.queue_types.specs.declared.event.KeptReport.{KeptReport}
use Rattle.queue_rows.specs.Codes.{job_state_number, kind_number}
use Rattle.queue_tables.specs.Values.{number}

-- its kind, its count, and what it was answered
abbrev pub told_values : KeptReport → Row
told_values k = number (kind_number k.report.kind) ∷ number k.report.count ∷ number (job_state_number k.state) ∷ number k.total ∷ []

-- its count has 32 bits, and its total is within its limit
pub record IsFormedReport (k : KeptReport) : Type 0 where
  pub count : k.report.count < 2 ^ 32
  pub total : k.total ≤ 100000000
