-- The state of a job and its reasons (RFC 8011, sections 5.3.7 and 5.3.8), and the pages that are set aside for it.
use Rattle.std.specs.Prelude.{ℕ, ◌-◌, ◌*◌, Bool, true, false, ◌||◌, if◌then◌else◌, Some, None, is_some}
use Rattle.queue_types.specs.States.{job_state_number}
use Rattle.queue_types.specs.declared.job.Job.{Job}
use Rattle.queue_types.specs.declared.job.Why.TheVariants.{ByUser, AtDevice, ByOperator}
use Rattle.queue_types.specs.declared.job.Phase.{Phase}
use Rattle.queue_types.specs.declared.job.Phase.TheVariants.{Waiting, Running, Stopped, Canceled, Aborted, Completed}
use Rattle.queue_types.specs.declared.job.Reason.{Reason}
use Rattle.queue_types.specs.declared.job.Reason.TheVariants.{NoReason, JobIncoming, JobHoldUntilSpecified, JobPrinting, PrinterStopped, ProcessingToStopPoint, JobCanceledByUser, JobCanceledAtDevice, JobCanceledByOperator, AbortedBySystem, JobCompletedSuccessfully}
use Rattle.queue_types.specs.declared.job.Reasons.{Reasons}
use Rattle.queue_types.specs.declared.states.JobState.{JobState}
use Rattle.queue_types.specs.declared.states.JobState.TheVariants.{Pending, PendingHeld, Processing, ProcessingStopped, Canceled as CanceledState, Aborted as AbortedState, Completed as CompletedState}

abbrev pub job_state_in : Phase → Bool → Bool → JobState
job_state_in Waiting hold incoming = if hold || incoming then PendingHeld else Pending
job_state_in Running hold incoming = Processing
job_state_in Stopped hold incoming = ProcessingStopped
job_state_in (Canceled why) hold incoming = CanceledState
job_state_in Aborted hold incoming = AbortedState
job_state_in Completed hold incoming = CompletedState

abbrev pub job_state : Job → JobState
job_state j = job_state_in j.phase j.hold j.incoming

-- by its number: 3 pending, 4 pending-held, 5 processing, 6 processing-stopped, 7 canceled, 8 aborted, 9 completed
abbrev pub state_in : Phase → Bool → Bool → ℕ
state_in p hold incoming = job_state_number (job_state_in p hold incoming)

abbrev pub state : Job → ℕ
state j = state_in j.phase j.hold j.incoming

abbrev pub one_reason : Reason → Reasons
one_reason r = record { first = r; second = None }

-- the first, and the second where it applies
abbrev pub two_reasons : Reason → Reason → Bool → Reasons
two_reasons r s applies = record { first = r; second = if applies then Some s else None }

abbrev pub reasons_in : Phase → Job → Reasons
reasons_in Waiting j = if j.incoming then two_reasons JobIncoming JobHoldUntilSpecified j.hold else (if j.hold then one_reason JobHoldUntilSpecified else one_reason NoReason)
reasons_in Running j = two_reasons JobPrinting ProcessingToStopPoint (is_some j.stopping)
reasons_in Stopped j = two_reasons PrinterStopped ProcessingToStopPoint (is_some j.stopping)
reasons_in (Canceled ByUser) j = one_reason JobCanceledByUser
reasons_in (Canceled AtDevice) j = one_reason JobCanceledAtDevice
reasons_in (Canceled ByOperator) j = one_reason JobCanceledByOperator
reasons_in Aborted j = one_reason AbortedBySystem
reasons_in Completed j = one_reason JobCompletedSuccessfully

abbrev pub reasons : Job → Reasons
reasons j = reasons_in j.phase j

-- states 3 to 6
abbrev pub is_live_in : Phase → Bool
is_live_in Waiting = true
is_live_in Running = true
is_live_in Stopped = true
is_live_in (Canceled why) = false
is_live_in Aborted = false
is_live_in Completed = false

abbrev pub is_live : Job → Bool
is_live j = is_live_in j.phase

abbrev pub is_running_in : Phase → Bool
is_running_in Running = true
is_running_in _ = false

abbrev pub is_running : Job → Bool
is_running j = is_running_in j.phase

abbrev pub is_stopped_in : Phase → Bool
is_stopped_in Stopped = true
is_stopped_in _ = false

abbrev pub is_stopped : Job → Bool
is_stopped j = is_stopped_in j.phase

-- the pages that the owner asked for
abbrev pub estimate : Job → ℕ
estimate j = j.impressions * j.copies

-- the pages that are still set aside
abbrev pub owed : Job → ℕ
owed j = if is_live j then (if j.hold then 0 else estimate j - j.count) else 0
