-- What a device's report leaves.
use Rattle.std.specs.Prelude.{◌≡◌, ℕ, List, Some, None, map, max}
use Rattle.std.specs.FinMap.{get}
use Rattle.queue_types.specs.Job.{job_state}
use Rattle.queue_core.specs.Machine.{Step}
use Rattle.queue_core.specs.World.{World, Entry, rows, job_at}
use Rattle.queue_types.specs.declared.document.Document.{Document}
use Rattle.queue_types.specs.declared.event.KeptReport.{KeptReport}
use Rattle.queue_types.specs.declared.event.Kind.{Kind}
use Rattle.queue_types.specs.declared.event.Report.{Report}
use Rattle.queue_types.specs.declared.event.Reply.TheVariants.{Told}
use Rattle.queue_types.specs.declared.job.Job.{Job}
use Rattle.queue_types.specs.declared.job.Phase.{Phase}
use Rattle.queue_types.specs.declared.states.JobState.{JobState}

-- the one is the other but for its phase with its moments, whether it is stopping, and its count
abbrev pub IsSameJob : Job → Job → Type 0
IsSameJob k j = record k { phase = j.phase; begun = j.begun; ended = j.ended; stopping = j.stopping; count = j.count } ≡ j

-- the documents of each job
abbrev pub documents_in : List Entry → List (List Document)
documents_in es = map (λ e. e.documents) es

-- no report of its job and sequence number was accepted before
abbrev pub IsNew : Report → World → Type 0
IsNew r w = get w.reports (r.job, r.seq) ≡ None

-- a new report of that kind, of the job j
pub record IsFirst (k : Kind) (r : Report) (j : Job) (w : World) : Type 0 where
  pub new : IsNew r w
  pub job : job_at r.job (rows w) ≡ Some j
  pub kind : r.kind ≡ k

-- a report of the job j, where k was accepted before under its job and sequence number
pub record IsLater (k : KeptReport) (r : Report) (j : Job) (w : World) : Type 0 where
  pub kept : get w.reports (r.job, r.seq) ≡ Some k
  pub job : job_at r.job (rows w) ≡ Some j

-- ended in that phase at that moment, and asked to stop no more
abbrev pub ended_by : Phase → ℕ → Job → Job
ended_by p now j = record j { phase = p; stopping = None; ended = Some now }

-- by this step the job of the report becomes k, with the greater of the two counts, in that state, and the device is told
-- its state and count
pub record Becomes (r : Report) (in_state : JobState) (k : Job) (s : Step) : Type 0 where
  pub job : job_at r.job (rows s.world) ≡ Some (record k { count = max k.count r.count })
  pub state : job_state k ≡ in_state
  pub told : s.reply ≡ Told in_state (max k.count r.count)
