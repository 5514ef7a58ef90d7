-- The machine: what each event is answered, and what becomes of the rows. One definition for each row of its table.
use Rattle.std.specs.Prelude.{ℕ, ℤ, pos, ◌+ℤ◌, ◌-ℤ◌, ◌+◌, fold, List, [], ◌∷◌, Option, Some, None, map, filter, ◌==◌, ◌&&◌, ◌||◌, not, bytes_eq, Bool, true, false, if◌then◌else◌, nat_le, nat_lt, int_le, unwrap_or, is_none, length}
use Rattle.std.specs.List.{list_all, list_any}
use Rattle.std.specs.Option.{option_map_or}
use Rattle.queue_types.specs.Job.{estimate, owed, job_state}
use Rattle.queue_types.specs.Operators.{is_operator}
use Rattle.queue_types.specs.Event.{NewJob, NewDocument, Change, Decision, Event, Call, ask, tell, grant, expire, print_job, validate_job, create_job, send_document, cancel_job, cancel_my_jobs, hold_job, release_job, get_job_attributes, get_jobs, get_printer_attributes}
use Rattle.queue_core.specs.World.{World, cut, made_on, job_at}
use Rattle.queue_core.specs.Reports.{reported, is_same_report, ended_as}
use Rattle.queue_core.specs.Grants.{Taken, all_taken, none_taken, take_rows}
use Rattle.queue_core.specs.Sound.{reserved_for}
use Rattle.queue_types.specs.declared.job.Job.{Job}
use Rattle.queue_types.specs.declared.document.Format.{Format}
use Rattle.queue_types.specs.declared.job.Why.{Why}
use Rattle.queue_types.specs.declared.job.Why.TheVariants.{ByUser, ByOperator}
use Rattle.queue_types.specs.declared.job.Phase.{Phase}
use Rattle.queue_types.specs.declared.job.Phase.TheVariants.{Waiting, Running, Stopped, Canceled, Aborted, Completed}
use Rattle.queue_types.specs.declared.event.FreeRow.{FreeRow}
use Rattle.queue_types.specs.declared.event.KeptReport.{KeptReport}
use Rattle.queue_types.specs.declared.event.Report.{Report}
use Rattle.queue_types.specs.declared.event.ReportRefusal.TheVariants.{NoJob, State, Conflict}
use Rattle.queue_types.specs.declared.event.Reply.{Reply}
use Rattle.queue_types.specs.declared.event.Reply.TheVariants.{Refused, Done, Jobs, Printer, Told, NotTold, Added, NotAdded, Expired}
use Rattle.queue_types.specs.declared.event.Scene.{Scene}
use Rattle.queue_types.specs.declared.event.QueueCounts.{QueueCounts}
use Rattle.queue_types.specs.declared.states.PrinterState.{PrinterState}
use Rattle.queue_types.specs.declared.states.PrinterState.TheVariants.{Idle, Processing as PrinterProcessing, Stopped as PrinterStopped}

abbrev pub no_change : Change
no_change = record { jobs = []; document = None; free = []; grants = []; report = None; next = None }

abbrev pub answered : Reply → Decision
answered r = record { reply = r; change = no_change }

abbrev pub refused : ℕ → Decision
refused code = answered (Refused code)

-- ---- the balance: as jobs change, free pages move by this rule alone (new grants add theirs: `free_after` in Grants)

-- the pages that a job has taken from free: those that are set aside and those that are printed
abbrev pub taken : Job → ℕ
taken j = owed j + j.count

-- what comes back to the account as the job of that number becomes this: what it had taken, less what it has taken now
abbrev pub given_back : List Job → List ℕ → Job → ℤ
given_back before account j = if bytes_eq j.owner account then pos (option_map_or taken (job_at j.number before) 0) -ℤ pos (taken j) else pos 0

-- the sum of it over the jobs that change
abbrev pub returned : List Job → List ℕ → List Job → ℤ
returned before account js = fold (λ sum j. sum +ℤ given_back before account j) (pos 0) js

abbrev pub credited : List Job → List Job → FreeRow → FreeRow
credited before js a = record a { free = a.free +ℤ returned before a.account js }

-- these jobs change, and the free pages of the scene's accounts by the balance
abbrev pub changed : Scene → List Job → Change
changed s js = record no_change { jobs = js; free = map (credited s.jobs js) s.free }

abbrev pub becomes : Scene → Job → Decision
becomes s j = record { reply = Done; change = changed s (j ∷ []) }

-- ---- Print-Job and Create-Job (RFC 8011, sections 4.2.1 and 4.2.4)

-- a payload is one document, and an empty one is none
abbrev pub document_count : List ℕ → ℕ
document_count payload = if length payload == 0 then 0 else 1

-- a new job, on hold; whether more documents may come
abbrev pub new_job : Scene → ℕ → List ℕ → Bool → NewJob → List ℕ → Job
new_job s now caller incoming j payload = record {
  number = s.next;
  owner = caller;
  name = j.name;
  copies = j.copies;
  impressions = unwrap_or j.impressions s.settings.estimate;
  hold = true;
  incoming = incoming;
  phase = Waiting;
  stopping = None;
  count = 0;
  created = now;
  begun = None;
  ended = None;
  documents = document_count payload;
  octets = length payload;
}

-- the payload as a document of that job, where it is not empty
abbrev pub new_document : ℕ → Format → List ℕ → Option NewDocument
new_document n format [] = None
new_document n format (b ∷ bytes) = Some (record { job = n; format = format; bytes = b ∷ bytes })

-- the job enters under the next number, with its document; on hold it takes no pages, so its scene has no account
abbrev pub entered : Scene → Job → Option NewDocument → Decision
entered s j document = record {
  reply = Jobs (j ∷ []);
  change = record (changed s (j ∷ [])) { document = document; next = Some (s.next + 1) };
}

-- a caller has at most 100 live jobs, and numbers end at 2,147,483,647
abbrev pub new_refusal : Scene → Option ℕ
new_refusal s = if nat_le 100 s.live then Some 0x0404 else (if nat_lt 2147483647 s.next then Some 0x0506 else None)

-- the refusal, or else the decision
abbrev pub unless_refused : Option ℕ → Decision → Decision
unless_refused None d = d
unless_refused (Some code) d = refused code

abbrev pub print_job_row : Scene → ℕ → List ℕ → NewJob → Format → List ℕ → Decision
print_job_row s now caller j format payload = unless_refused (new_refusal s) (entered s (new_job s now caller false j payload) (new_document s.next format payload))

-- open for documents
abbrev pub create_job_row : Scene → ℕ → List ℕ → NewJob → Decision
create_job_row s now caller j = unless_refused (new_refusal s) (entered s (new_job s now caller true j []) None)

-- ---- Validate-Job (RFC 8011, section 4.2.3)

-- what Print-Job would answer, without the job
abbrev pub validate_job_row : Scene → Decision
validate_job_row s = unless_refused (new_refusal s) (answered Done)

-- ---- Get-Printer-Attributes (RFC 8011, sections 4.2.5 and 5.4.11)

abbrev pub printer_state : QueueCounts → PrinterState
printer_state c = if nat_lt 0 c.running then PrinterProcessing else (if nat_lt 0 c.stopped then PrinterStopped else Idle)

abbrev pub printer_row : Scene → Decision
printer_row s = answered (Printer (printer_state s.counts) s.counts.queued (nat_le s.next 2147483647))

-- ---- Cancel-Job (RFC 8011, section 4.3.3)

-- a job that waits, or that the device has and was not asked to stop
abbrev pub is_cancelable_in : Phase → Job → Bool
is_cancelable_in Waiting j = true
is_cancelable_in Running j = is_none j.stopping
is_cancelable_in Stopped j = is_none j.stopping
is_cancelable_in (Canceled why) j = false
is_cancelable_in Aborted j = false
is_cancelable_in Completed j = false

abbrev pub is_cancelable : Job → Bool
is_cancelable j = is_cancelable_in j.phase j

-- a waiting job ends; while the device has it, it is asked to stop
abbrev pub canceled_in : Why → Phase → ℕ → Job → Job
canceled_in why Waiting now j = record j { phase = Canceled why; hold = false; incoming = false; ended = Some now }
canceled_in why Running now j = record j { stopping = Some why }
canceled_in why Stopped now j = record j { stopping = Some why }
canceled_in why (Canceled before) now j = j
canceled_in why Aborted now j = j
canceled_in why Completed now j = j

abbrev pub canceled_by : Why → ℕ → Job → Job
canceled_by why now j = canceled_in why j.phase now j

-- by its owner
abbrev pub canceled : ℕ → Job → Job
canceled now j = canceled_by ByUser now j

-- the owner cancels its own job, and an operator another's
abbrev pub cause : List ℕ → Job → Why
cause caller j = if bytes_eq j.owner caller then ByUser else ByOperator

abbrev pub cancel_row : Scene → ℕ → Why → Job → Decision
cancel_row s now why j = if is_cancelable j then becomes s (canceled_by why now j) else refused 0x0404

-- ---- Cancel-My-Jobs (PWG 5100.11)

abbrev pub all_canceled : Scene → ℕ → List Job → Decision
all_canceled s now js = record { reply = Done; change = changed s (map (canceled now) js) }

-- each of the numbers is that of one of the jobs
abbrev pub are_there : List Job → List ℕ → Bool
are_there js numbers = list_all (λ n. list_any (λ m. m == n) (map (λ j. j.number) js)) numbers

-- all of them or none; without numbers those that can be
abbrev pub cancel_my_jobs_row : Scene → ℕ → Option (List ℕ) → Decision
cancel_my_jobs_row s now (Some numbers) = if are_there s.jobs numbers then (if list_all is_cancelable s.jobs then all_canceled s now s.jobs else refused 0x0404) else refused 0x0406
cancel_my_jobs_row s now None = all_canceled s now (filter is_cancelable s.jobs)

-- ---- Send-Document (RFC 8011, section 4.3.1)

-- a job that is not open takes no document, and none takes a seventeenth
abbrev pub is_sendable : Job → List ℕ → Bool
is_sendable j payload = j.incoming && nat_le (j.documents + document_count payload) 16

-- the payload is the job's next document, and after the last one no more may come
abbrev pub sent : Job → List ℕ → Bool → Job
sent j payload last = record j { documents = j.documents + document_count payload; octets = j.octets + length payload; incoming = not last }

-- the job takes the payload, and is answered; a document takes no pages, so its scene has no account
abbrev pub document_sent : Scene → Job → Format → List ℕ → Bool → Decision
document_sent s j format payload last = record {
  reply = Jobs (sent j payload last ∷ []);
  change = record (changed s (sent j payload last ∷ [])) { document = new_document j.number format payload };
}

abbrev pub send_in : Scene → Job → Format → List ℕ → Bool → Decision
send_in s j format payload last = if is_sendable j payload then document_sent s j format payload last else refused 0x0404

-- ---- Hold-Job and Release-Job (RFC 8011, sections 4.3.5 and 4.3.6)

abbrev pub hold_in : Phase → Scene → Job → Decision
hold_in Waiting s j = becomes s (record j { hold = true })
hold_in Running s j = refused 0x0404
hold_in Stopped s j = refused 0x0404
hold_in (Canceled why) s j = refused 0x0404
hold_in Aborted s j = refused 0x0404
hold_in Completed s j = refused 0x0404

-- the caller has an account with so many free pages
abbrev pub has_pages : List FreeRow → ℕ → Bool
has_pages [] pages = false
has_pages (a ∷ rows) pages = int_le (pos pages) a.free

abbrev pub let_print : Scene → Job → Decision
let_print s j = if has_pages s.free (estimate j) then becomes s (record j { hold = false }) else refused 0x0404

-- what is released already stays so
abbrev pub release_in : Phase → Scene → Job → Decision
release_in Waiting s j = if j.hold then let_print s j else answered Done
release_in Running s j = answered Done
release_in Stopped s j = answered Done
release_in (Canceled why) s j = refused 0x0404
release_in Aborted s j = refused 0x0404
release_in Completed s j = refused 0x0404

-- ---- reports of a device

-- what is accepted is kept, with what its answer told
abbrev pub accepted : Scene → Report → Job → Decision
accepted s r j = record {
  reply = Told (job_state j) j.count;
  change = record (changed s (j ∷ [])) { report = Some (record { report = r; state = job_state j; total = j.count }) };
}

abbrev pub accepted_where : Scene → Report → Option Job → Decision
accepted_where s r None = answered (NotTold State)
accepted_where s r (Some j) = accepted s r j

-- a report that was accepted before has its first answer
abbrev pub report_row : Scene → ℕ → Report → List Job → Option KeptReport → Decision
report_row s now r [] kept = answered (NotTold NoJob)
report_row s now r (j ∷ js) None = accepted_where s r (reported r now j)
report_row s now r (j ∷ js) (Some k) = if is_same_report r k.report then answered (Told k.state k.total) else answered (NotTold Conflict)

-- ---- account files

abbrev pub grant_row : Taken → Decision
grant_row (all_taken new free repeats) = record { reply = Added (length new) repeats; change = record no_change { free = free; grants = new } }
grant_row (none_taken refusal row) = answered (NotAdded refusal row)

-- ---- held jobs that expire

-- a held or open job ends, aborted by the system
abbrev pub expired : ℕ → Job → Job
expired now j = ended_as Aborted now (record j { hold = false; incoming = false })

-- the pages that were set aside for these jobs go back to the account
abbrev pub freed : List Job → FreeRow → FreeRow
freed js a = record a { free = a.free +ℤ pos (reserved_for a.account js) }

-- the jobs of the scene are those that have expired
abbrev pub expire_row : Scene → ℕ → Decision
expire_row s now = record {
  reply = Expired (length s.jobs);
  change = record no_change { jobs = map (expired now) s.jobs; free = map (freed s.jobs) s.free };
}

-- ---- the table

-- the caller's own job; another's and none are one answer
abbrev pub of_own : List ℕ → (Job → Decision) → List Job → Decision
of_own caller row [] = refused 0x0406
of_own caller row (j ∷ js) = if bytes_eq j.owner caller then row j else refused 0x0406

-- the caller's own job, and for an operator any; another's and none are one answer
abbrev pub of_seen : List (List ℕ) → List ℕ → (Job → Decision) → List Job → Decision
of_seen operators caller row [] = refused 0x0406
of_seen operators caller row (j ∷ js) = if bytes_eq j.owner caller || is_operator operators caller then row j else refused 0x0406

-- an operation on a job of the caller's own
abbrev pub is_on_own : Call → Bool
is_on_own (send_document n format payload last) = true
is_on_own (hold_job n) = true
is_on_own (release_job n) = true
is_on_own _ = false

abbrev pub call_row : Scene → ℕ → List ℕ → Call → Decision
call_row s now caller (print_job j format payload) = print_job_row s now caller j format payload
call_row s now caller (validate_job j) = validate_job_row s
call_row s now caller (create_job j) = create_job_row s now caller j
call_row s now caller (send_document n format payload last) = of_own caller (λ j. send_in s j format payload last) s.jobs
call_row s now caller (get_jobs which limit mine) = answered (Jobs s.jobs)
call_row s now caller get_printer_attributes = printer_row s
call_row s now caller (cancel_job n) = of_seen s.settings.operators caller (λ j. cancel_row s now (cause caller j) j) s.jobs
call_row s now caller (cancel_my_jobs numbers) = cancel_my_jobs_row s now numbers
call_row s now caller (hold_job n) = of_own caller (λ j. hold_in j.phase s j) s.jobs
call_row s now caller (release_job n) = of_own caller (λ j. release_in j.phase s j) s.jobs
call_row s now caller (get_job_attributes n) = of_seen s.settings.operators caller (λ j. answered (Jobs (j ∷ []))) s.jobs

abbrev pub decision : Scene → ℕ → Event → Decision
decision s now (ask caller call) = call_row s now caller call
decision s now (tell r) = report_row s now r s.jobs s.report
decision s now (grant rows) = grant_row (take_rows rows s.known 1 [] [] 0)
decision s now expire = expire_row s now

pub record Step : Type 0 where
  pub world : World
  pub reply : Reply

-- one event: its answer, and the world after it
abbrev pub step : World → ℕ → Event → Step
step w now e = record { world = made_on (decision (cut w now e) now e).change w; reply = (decision (cut w now e) now e).reply }
