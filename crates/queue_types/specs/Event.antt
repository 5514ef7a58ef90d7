-- What may happen to a queue, by its content: what a call or a change says, without where its bytes lie.
use Rattle.std.specs.Prelude.{ℕ, Bool, List, Option, Some, None, option_map}
use Rattle.queue_types.specs.declared.document.Format.{Format}
use Rattle.queue_types.specs.declared.event.WhichJobs.{WhichJobs}
use Rattle.queue_types.specs.declared.event.NewJob.{NewJob as NewJobRef}
use Rattle.queue_types.specs.declared.event.Call.{Call as CallRef}
use Rattle.queue_types.specs.declared.event.Call.TheVariants.{PrintJob, ValidateJob, CreateJob, SendDocument, CancelJob, CancelMyJobs, HoldJob, ReleaseJob, GetJobAttributes, GetJobs, GetPrinterAttributes}
use Rattle.queue_types.specs.declared.event.Event.{Event as EventRef}
use Rattle.queue_types.specs.declared.event.Event.TheVariants.{Ask, Report as ReportEvent, Grants, Expire}
use Rattle.queue_types.specs.declared.event.FreeRow.{FreeRow}
use Rattle.queue_types.specs.declared.event.GrantRow.{GrantRow}
use Rattle.queue_types.specs.declared.event.KeptReport.{KeptReport}
use Rattle.queue_types.specs.declared.event.Report.{Report}
use Rattle.queue_types.specs.declared.event.NewDocument.{NewDocument as NewDocumentRef}
use Rattle.queue_types.specs.declared.event.Change.{Change as ChangeRef}
use Rattle.queue_types.specs.declared.event.Decision.{Decision as DecisionRef}
use Rattle.queue_types.specs.declared.event.Reply.{Reply}
use Rattle.queue_types.specs.declared.job.Job.{Job}
use Rattle.queue_types.specs.declared.event.Kind.{Kind}
use Rattle.queue_types.specs.declared.event.Kind.TheVariants.{Start, Stop, Resume, Count, Done, Fail, Halt}

pub record NewJob : Type 0 where
  pub name : List ℕ
  pub copies : ℕ
  pub impressions : Option ℕ

pub data Call : Type 0 where
  print_job : NewJob → Format → List ℕ → Call
  validate_job : NewJob → Call
  create_job : NewJob → Call
  -- to the job of that number; whether it is the last
  send_document : ℕ → Format → List ℕ → Bool → Call
  cancel_job : ℕ → Call
  -- those of these numbers, or all that can be
  cancel_my_jobs : Option (List ℕ) → Call
  hold_job : ℕ → Call
  release_job : ℕ → Call
  get_job_attributes : ℕ → Call
  -- of that kind and no more than that many; whether an operator asks for its own jobs alone
  get_jobs : WhichJobs → Option ℕ → Bool → Call
  get_printer_attributes : Call

pub data Event : Type 0 where
  ask : List ℕ → Call → Event
  -- a device tells of a job
  tell : Report → Event
  -- the rows of an account file
  grant : List GrantRow → Event
  -- held and open jobs that are older than the printer keeps them end
  expire : Event

pub record NewDocument : Type 0 where
  pub job : ℕ
  pub format : Format
  pub bytes : List ℕ

-- what becomes of the rows
pub record Change : Type 0 where
  pub jobs : List Job
  pub document : Option NewDocument
  -- in order: an account may stand more than once, and its last row counts
  pub free : List FreeRow
  pub grants : List GrantRow
  pub report : Option KeptReport
  pub next : Option ℕ

pub record Decision : Type 0 where
  pub reply : Reply
  pub change : Change

abbrev pub new_job_of : NewJobRef → NewJob
new_job_of j = record { name = j.name.now; copies = j.copies; impressions = j.impressions }

abbrev pub call_of : CallRef → Call
call_of (PrintJob j f b) = print_job (new_job_of j) f b.now
call_of (ValidateJob j) = validate_job (new_job_of j)
call_of (CreateJob j) = create_job (new_job_of j)
call_of (SendDocument n f b last) = send_document n f b.now last
call_of (CancelMyJobs numbers) = cancel_my_jobs numbers
call_of (HoldJob n) = hold_job n
call_of (ReleaseJob n) = release_job n
call_of (CancelJob n) = cancel_job n
call_of (GetJobAttributes n) = get_job_attributes n
call_of (GetJobs which limit mine) = get_jobs which limit mine
call_of GetPrinterAttributes = get_printer_attributes

-- the number of the one job that it is about
abbrev pub on_job : Call → Option ℕ
on_job (send_document n format payload last) = Some n
on_job (cancel_job n) = Some n
on_job (hold_job n) = Some n
on_job (release_job n) = Some n
on_job (get_job_attributes n) = Some n
on_job (print_job new format payload) = None
on_job (validate_job new) = None
on_job (create_job new) = None
on_job (cancel_my_jobs numbers) = None
on_job (get_jobs which limit mine) = None
on_job get_printer_attributes = None

abbrev pub event_of : EventRef → Event
event_of (Ask caller call) = ask caller.now (call_of call)
event_of (ReportEvent r) = tell r
event_of (Grants rows) = grant rows.now
event_of Expire = expire

abbrev pub document_of : NewDocumentRef → NewDocument
document_of d = record { job = d.job; format = d.format; bytes = d.bytes.now }

abbrev pub change_of : ChangeRef → Change
change_of c = record { jobs = c.jobs; document = option_map document_of c.document; free = c.free; grants = c.grants; report = c.report; next = c.next }

abbrev pub decision_of : DecisionRef → Decision
decision_of d = record { reply = d.reply; change = change_of d.change }

-- the number of a kind of report
abbrev pub kind_number : Kind → ℕ
kind_number Start = 1
kind_number Stop = 2
kind_number Resume = 3
kind_number Count = 4
kind_number Done = 5
kind_number Fail = 6
kind_number Halt = 7
