-- Jobs that have expired.
use Rattle.std.specs.Prelude.{ℕ, ◌+◌, ◌==◌, ◌&&◌, nat_le, nat_lt, List, Bool, false, Some, None, filter, if◌then◌else◌}
use Rattle.queue_types.specs.Job.{state}
use Rattle.queue_core.specs.World.{World, Entry, rows}
use Rattle.queue_types.specs.declared.job.Job.{Job}
use Rattle.queue_types.specs.declared.job.Phase.TheVariants.{Aborted}

-- the job is in state 4, and was created at least `keep` seconds ago; with 0 seconds no job is overdue
abbrev pub is_overdue : ℕ → ℕ → Job → Bool
is_overdue keep now j = nat_lt 0 keep && nat_le (j.created + keep) now && state j == 4

-- by the settings of this queue
abbrev pub is_due : World → ℕ → Job → Bool
is_due w now j = is_overdue w.settings.keep now j

-- the jobs that are overdue
abbrev pub overdue : World → ℕ → List Job
overdue w now = filter (is_due w now) (rows w)

-- aborted at that moment, and neither held nor open for documents any more
abbrev pub aborted : ℕ → Job → Job
aborted now j = record j { phase = Aborted; hold = false; incoming = false; stopping = None; ended = Some now }

-- the job with its documents: aborted if it is overdue, else as it was
abbrev pub aborted_if_due : World → ℕ → Entry → Entry
aborted_if_due w now e = if is_due w now e.row then record e { row = aborted now e.row } else e
