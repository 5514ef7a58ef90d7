-- What a request asks: the first check that refuses it, or else its call.
use Rattle.std.specs.Prelude.{◌≡◌, ℕ, List, [], ◌∷◌, Option, Some, None, Result, Ok, Err, ⊤, Bool, true, false, map, option_map, codes, unwrap_or, bytes_eq, if◌then◌else◌}
use Rattle.std.specs.Option.{option_map_or}
use Rattle.ipp_wire.specs.Message.{Message}
use Rattle.queue_types.specs.Event.{Call, Event, ask, print_job, validate_job, create_job, send_document, cancel_job, cancel_my_jobs, hold_job, release_job, get_job_attributes, get_jobs, get_printer_attributes, call_of}
use Rattle.queue_core.specs.Limits.{IsEvent}
use Rattle.ipp_reply.specs.declared.operation.Operation.{Operation}
use Rattle.ipp_reply.specs.declared.operation.Operation.TheVariants.{PrintJob, ValidateJob, CreateJob, SendDocument, CancelJob, GetJobAttributes, GetJobs, GetPrinterAttributes, HoldJob, ReleaseJob, CancelMyJobs}
use Rattle.ipp_request.specs.declared.attribute.OperationAttribute.TheVariants.{RequestedAttributes, WhichJobs, Limit, MyJobs, LastDocument, JobIds}
use Rattle.ipp_ops.specs.declared.check.Check.{Check}
use Rattle.ipp_reply.specs.Wanted.{Rows, of_job, of_printer, no_rows, rows_of, words_of}
use Rattle.ipp_ops.specs.declared.verdict.Ask.{Ask}
use Rattle.ipp_ops.specs.declared.verdict.Ask.TheVariants.{Call as CallAsk, Refused}
use Rattle.queue_types.specs.declared.event.WhichJobs.{WhichJobs as Which}
use Rattle.queue_types.specs.declared.event.WhichJobs.TheVariants as which
use Rattle.ipp_request.specs.Values.{number_of}
use Rattle.ipp_request.specs.Request.{Request, known, bytes_of, is_true, target_job, caller}
use Rattle.ipp_reply.specs.Unsupported.{Unsupported, nothing, unsupported_of, CanList}
use Rattle.ipp_request.specs.Unsupported.{unsupported}
use Rattle.ipp_ops.specs.Checks.{refusal, code}
use Rattle.ipp_request.specs.Reading.{request_in}
use Rattle.ipp_request.specs.Unsupported.{is_refused_for}
use Rattle.ipp_ops.specs.NewJob.{new_job, format}
use Rattle.ipp_reply.specs.JobReply.{selected, table as job_table}
use Rattle.ipp_reply.specs.PrinterReply.{selected as selected_of_printer, table as printer_table}
use Rattle.ipp_reply.specs.declared.job_reply.JobAttribute.TheVariants as attribute

-- a status code that refuses; or a call by a caller, with the rows that its reply is to have; and what is
-- unsupported
pub data Verdict : Type 0 where
  refused : ℕ → Unsupported → Verdict
  passed : List ℕ → Call → Rows → Unsupported → Verdict

-- the job's number; where the checks pass there is one
abbrev pub job : Request → ℕ
job r = unwrap_or (target_job r) 0

-- absent: those that are not completed
abbrev pub which_jobs : Request → Which
which_jobs r = if bytes_eq (bytes_of r WhichJobs) (codes "completed") then which.Completed else which.NotCompleted

-- absent: none
abbrev pub limit : Request → Option ℕ
limit r = number_of (bytes_of r Limit)

-- no more documents come behind this one
abbrev pub is_last : Request → Bool
is_last r = is_true r LastDocument

-- absent: none
abbrev pub job_ids : Request → Option (List ℕ)
job_ids r = option_map (λ a. map (λ v. unwrap_or (number_of v.bytes) 0) a.values) (known r JobIds)

-- the call that the operation makes of a request
abbrev pub call_by : Operation → Request → Call
call_by PrintJob r = print_job (new_job r) (format r) r.payload
call_by ValidateJob r = validate_job (new_job r)
call_by CreateJob r = create_job (new_job r)
call_by SendDocument r = send_document (job r) (format r) r.payload (is_last r)
call_by GetJobs r = get_jobs (which_jobs r) (limit r) (is_true r MyJobs)
call_by GetPrinterAttributes r = get_printer_attributes
call_by CancelJob r = cancel_job (job r)
call_by GetJobAttributes r = get_job_attributes (job r)
call_by HoldJob r = hold_job (job r)
call_by ReleaseJob r = release_job (job r)
call_by CancelMyJobs r = cancel_my_jobs (job_ids r)

abbrev pub call : Request → Call
call r = call_by r.operation r

-- ---- the rows of the reply

-- the rows of the table of which the operation shows something, by the names that select them
abbrev pub rows_by : Operation → List (List ℕ) → Rows
rows_by GetPrinterAttributes words = of_printer (selected_of_printer words)
rows_by _ words = of_job (selected words)

-- what is told of the job that a request has made, or to which it adds a document (RFC 8011, section 4.2.1.2)
abbrev pub job_status : Rows
job_status = of_job (attribute.JobUri ∷ attribute.JobId ∷ attribute.JobState ∷ attribute.JobStateReasons ∷ [])

-- the rows that stand for an absent requested-attributes
abbrev pub usual : Operation → Rows
usual PrintJob = job_status
usual ValidateJob = no_rows
usual CreateJob = job_status
usual SendDocument = job_status
usual CancelJob = no_rows
usual GetJobAttributes = of_job job_table
usual GetJobs = of_job (attribute.JobUri ∷ attribute.JobId ∷ [])
usual GetPrinterAttributes = of_printer printer_table
usual HoldJob = no_rows
usual ReleaseJob = no_rows
usual CancelMyJobs = no_rows

-- those that the values of requested-attributes select, or else the usual ones
abbrev pub rows : Request → Rows
rows r = option_map_or (λ a. rows_by r.operation (words_of a.values)) (known r RequestedAttributes) (usual r.operation)

-- ---- the verdict

-- what is unsupported is told where it is the reason for a refusal, and with what is done
abbrev pub listed_verdict : Request → Unsupported → Bool → Verdict
listed_verdict r u true = refused 0x040B u
listed_verdict r u false = passed (caller r) (call r) (rows r) u

-- of a request whose head is taken and whose first group begins as it has to, by the check that refuses it, if one does
abbrev pub checked_verdict : Request → Option Check → Verdict
checked_verdict r (Some c) = refused (code c) nothing
checked_verdict r None = listed_verdict r (unsupported r) (is_refused_for r (unsupported r))

-- by what its message was read as: a request, or the code of what refuses its head or how its first group begins
abbrev pub request_verdict : Result Request ℕ → Verdict
request_verdict (Err code) = refused code nothing
request_verdict (Ok r) = checked_verdict r (refusal r)

-- what refuses the message first, or else its call
abbrev pub verdict : Message → Verdict
verdict m = request_verdict (request_in m)

-- ---- an answer of `ask`, by its content

abbrev pub ask_content : Ask → Verdict
ask_content (CallAsk caller call wanted unsupported) = passed caller.now (call_of call) (rows_of wanted) (unsupported_of unsupported)
ask_content (Refused code unsupported) = refused code (unsupported_of unsupported)

-- a call is an event within the machine's limits
abbrev pub IsWithinLimits : Verdict → Type 0
IsWithinLimits (refused code u) = ⊤
IsWithinLimits (passed caller call rows u) = IsEvent (ask caller call)

-- the event is the call that passed
abbrev pub IsPassed : Verdict → Event → Type 0
IsPassed (refused code u) e = ⊥
IsPassed (passed caller call rows u) e = e ≡ ask caller call

-- each attribute that is listed may stand in a message
abbrev pub ListsAttributes : Verdict → Type 0
ListsAttributes (refused code u) = CanList u
ListsAttributes (passed caller call rows u) = CanList u
