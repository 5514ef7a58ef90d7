-- Which documents the device may fetch.
use Rattle.std.specs.Prelude.{ℕ, ◌-◌, ◌==◌, Bool, false, nat_lt, List, [], ◌∷◌, Option, Some, None, find, slice_get, if◌then◌else◌}
use Rattle.std.specs.Option.{option_map_or}
use Rattle.sqlite.specs.Order.{Row}
use Rattle.queue_core.specs.Shown.{may_be_fetched}
use Rattle.queue_core.specs.World.{Entry}
use Rattle.queue_types.specs.declared.job.Job.{Job}
use Rattle.queue_types.specs.declared.document.Document.{Document}
use Rattle.queue_rows.specs.Codes.{phase_number, stopping_number, why_number}
use Rattle.queue_tables.specs.Values.{number, truth}

-- there is such a job
abbrev pub job_may_be_fetched : Option Job → Bool
job_may_be_fetched o = option_map_or may_be_fetched o false

-- the columns from which the state of a job comes
abbrev pub state_values : Job → Row
state_values j = truth j.hold ∷ truth j.incoming ∷ number (phase_number j.phase) ∷ number (why_number j.phase j.stopping) ∷ number (stopping_number j.phase j.stopping) ∷ []

abbrev pub nth_document : Option Entry → ℕ → Option Document
nth_document None n = None
nth_document (Some e) n = if nat_lt 0 n then slice_get e.documents (n - 1) else None

-- document n, from 1, of the job of that number, whatever the job's state
abbrev pub document_in : List Entry → ℕ → ℕ → Option Document
document_in es job n = nth_document (find (λ (e : Entry). e.row.number == job) es) n
