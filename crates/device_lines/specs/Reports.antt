-- What a line of the device brings about: an answer, and the queue after it.
use Rattle.std.specs.Prelude.{◌≡◌, ◌⊎◌, ◌++◌, ℕ, Bool, List, Option, Some, None, Result, Ok, Err, codes, decimal, bytes_eq, MatchBool}
use Rattle.queue_types.specs.Event.{Event, tell}
use Rattle.queue_types.specs.States.{job_state_number}
use Rattle.queue_core.specs.Limits.{IsReportReply}
use Rattle.queue_core.specs.Machine.{step}
use Rattle.queue_core.specs.World.{World}
use Rattle.queue_types.specs.declared.event.Reply.{Reply}
use Rattle.queue_types.specs.declared.event.Reply.TheVariants.{Told, NotTold}
use Rattle.queue_types.specs.declared.event.Report.{Report}
use Rattle.queue_types.specs.declared.event.ReportRefusal.{ReportRefusal}
use Rattle.queue_types.specs.declared.event.ReportRefusal.TheVariants.{NoJob, State, Conflict}
use Rattle.queue_types.specs.declared.states.JobState.{JobState}
use Rattle.device_lines.specs.Lines.{Reads}
use Rattle.device_lines.specs.declared.line.LineFault.{LineFault}
use Rattle.device_lines.specs.declared.line.LineFault.TheVariants.{Syntax, Range}

-- ---- the answers

-- an accepted report: the job's state by its number, and its count, as they are after it
abbrev pub told_line : ℕ → JobState → ℕ → List ℕ
told_line job state count = codes "ok " ++ decimal job ++ codes " " ++ decimal (job_state_number state) ++ codes " " ++ decimal count ++ codes "\n"

-- a line that is no report
abbrev pub unread_line : LineFault → List ℕ
unread_line Syntax = codes "refused 1 syntax\n"
unread_line Range = codes "refused 4 range\n"

-- a report that is not accepted
abbrev pub untold_line : ReportRefusal → List ℕ
untold_line NoJob = codes "refused 2 no-job\n"
untold_line State = codes "refused 3 state\n"
untold_line Conflict = codes "refused 5 conflict\n"

-- a fault of the book
abbrev pub fault_line : List ℕ
fault_line = codes "refused 6 fault\n"

abbrev pub is_fault_line : List ℕ → Bool
is_fault_line out = bytes_eq out fault_line

-- out is what the device is answered where the machine replies so to its report of that job
abbrev pub AnswersReport : ℕ → Reply → List ℕ → Type 0
AnswersReport job (Told state count) out = out ≡ told_line job state count
AnswersReport job (NotTold refusal) out = out ≡ untold_line refusal
AnswersReport job _ out = ⊥

-- out is what the device is answered to a report of that job, whatever the machine replies
pub record IsReplyToReport (job : ℕ) (out : List ℕ) : Type 0 where
  pub reply : Reply
  pub within : IsReportReply reply
  pub answers : AnswersReport job reply out

-- ---- one line

-- out and new are what the reading of a line brings about: a report is one step of the machine, and what can't be read leaves the world as it was
abbrev pub BringsAbout : Result Report LineFault → World → ℕ → World → List ℕ → Type 0
BringsAbout (Ok r) old now new out = (new ≡ (step old now (tell r)).world) × AnswersReport r.job (step old now (tell r)).reply out
BringsAbout (Err fault) old now new out = (new ≡ old) × (out ≡ unread_line fault)

-- out is the answer to the line, and new the queue after it
pub record IsReported (old : World) (now : ℕ) (line : List ℕ) (new : World) (out : List ℕ) : Type 0 where
  pub reading : Result Report LineFault
  pub reads : Reads line reading
  pub brings : BringsAbout reading old now new out

-- the line is read as a report, which the book could not take
pub record IsUntaken (line : List ℕ) (out : List ℕ) : Type 0 where
  pub report : Report
  pub reads : Reads line (Ok report)
  pub text : out ≡ fault_line

-- out answers the line at this moment, and new is the queue after it; or out tells of a fault, and the queue stays
abbrev pub AnswersLine : World → ℕ → List ℕ → World → List ℕ → Type 0
AnswersLine old now line new out = IsReported old now line new out ⊎ (IsUntaken line out × (new ≡ old))

-- the line that tells of a fault is told apart: behind it the queue stays, and any other is the answer to the line
abbrev pub BringsLine : World → ℕ → List ℕ → World → List ℕ → Type 0
BringsLine old now line new out = MatchBool (is_fault_line out) (IsUntaken line out × (new ≡ old)) (IsReported old now line new out)

-- what a line asks of the machine: to take a report, or nothing where it is none
pub data Tells (line : List ℕ) : Option Event → Type 0 where
  reports : (r : Report) → Reads line (Ok r) → Tells line (Some (tell r))
  unread : (f : LineFault) → Reads line (Err f) → Tells line None

-- the events that a line tells: its report, where it is one
abbrev pub ToldBy : List ℕ → Event → Type 0
ToldBy line = λ e. Tells line (Some e)
