-- The limits of rows, events and replies.
use Rattle.std.specs.Prelude.{◌≡◌, ℕ, ℤ, ◌^◌, ◌*◌, ◌+◌, ◌≤◌, ◌<◌, ◌≢◌, List, Some, None, All, ⊤, IsSome, IfSome, length, ◌==◌, ◌&&◌, ◌||◌, Bool, false, IsTrue, nat_le}
use Rattle.std.specs.List.{list_all}
use Rattle.std.specs.Str.{IsUtf8}
pub use Rattle.queue_types.specs.Names.{IsOwner, is_no_control}
use Rattle.queue_types.specs.Settings.{AreSettings}
use Rattle.queue_types.specs.Event.{Event, Call, NewJob, Change, ask, tell, grant, expire, print_job, validate_job, create_job, send_document, cancel_job, cancel_my_jobs, hold_job, release_job, get_job_attributes, get_jobs, get_printer_attributes}
use Rattle.queue_core.specs.Balance.{IsWithin}
use Rattle.queue_core.specs.World.{job_at}
use Rattle.queue_types.specs.declared.job.Job.{Job}
use Rattle.queue_types.specs.declared.job.Phase.{Phase}
use Rattle.queue_types.specs.declared.job.Phase.TheVariants.{Waiting, Running, Stopped, Canceled, Aborted, Completed}
use Rattle.queue_types.specs.declared.job.Why.TheVariants.{AtDevice}
use Rattle.queue_types.specs.declared.event.GrantRow.{GrantRow}
use Rattle.queue_types.specs.declared.event.KnownGrant.{KnownGrant}
use Rattle.queue_types.specs.declared.event.Report.{Report}
use Rattle.queue_types.specs.declared.event.Reply.{Reply}
use Rattle.queue_types.specs.declared.event.Reply.TheVariants.{Refused, Done, Jobs, Printer, Told, NotTold, Added, NotAdded, Expired}
use Rattle.queue_types.specs.declared.event.Scene.{Scene}

-- 1 to 2,147,483,647: a moment, a job number or a sequence number
abbrev pub IsPositive : ℕ → Type 0
IsPositive n = (1 ≤ n) × (n < 2 ^ 31)

-- seconds of printer up time
abbrev pub IsMoment : ℕ → Type 0
IsMoment = IsPositive

-- a job's name: 1 to 255 octets of UTF-8 without a zero byte
pub record IsJobName (t : List ℕ) : Type 0 where
  pub some : 1 ≤ length t
  pub fits : length t ≤ 255
  pub utf8 : IsUtf8 t
  pub no_zero : IsTrue (list_all (λ b. nat_le 1 b) t)

-- a letter, a digit, '-', '.' or '_' of ASCII
abbrev pub is_batch_byte : ℕ → Bool
is_batch_byte b = (nat_le 48 b && nat_le b 57) || (nat_le 65 b && nat_le b 90) || (nat_le 97 b && nat_le b 122) || b == 45 || b == 46 || b == 95

-- a batch's name: 1 to 40 of them
pub record IsBatch (t : List ℕ) : Type 0 where
  pub some : 1 ≤ length t
  pub fits : length t ≤ 40
  pub letters : IsTrue (list_all is_batch_byte t)

-- a grant's batch, account and pages
abbrev pub IsGrant : List ℕ → List ℕ → ℕ → Type 0
IsGrant batch account pages = IsBatch batch × IsOwner account × (1 ≤ pages) × (pages ≤ 1000000)

-- what a phase asks of the other fields; the device itself asks nobody to stop a job
abbrev pub FitsPhase : Phase → Job → Type 0
FitsPhase Waiting j = (j.count ≡ 0) × (j.begun ≡ None) × (j.ended ≡ None) × (j.stopping ≡ None)
FitsPhase Running j = (j.hold ≡ false) × (j.incoming ≡ false) × IsSome j.begun × (j.ended ≡ None) × (j.stopping ≢ Some AtDevice)
FitsPhase Stopped j = (j.hold ≡ false) × (j.incoming ≡ false) × IsSome j.begun × (j.ended ≡ None) × (j.stopping ≢ Some AtDevice)
FitsPhase (Canceled why) j = (j.hold ≡ false) × (j.incoming ≡ false) × IsSome j.ended × (j.stopping ≡ None)
FitsPhase Aborted j = (j.hold ≡ false) × (j.incoming ≡ false) × IsSome j.ended × (j.stopping ≡ None)
FitsPhase Completed j = (j.hold ≡ false) × (j.incoming ≡ false) × IsSome j.ended × (j.stopping ≡ None)

-- a job's own limits
pub record IsSoundJob (j : Job) : Type 0 where
  pub number : IsPositive j.number
  pub owner : IsOwner j.owner
  pub name : IsJobName j.name
  pub copies : (1 ≤ j.copies) × (j.copies ≤ 999)
  pub impressions : j.impressions ≤ 100000
  pub count : j.count ≤ 100000000
  pub created : IsMoment j.created
  pub begun : IfSome j.begun IsMoment
  pub ended : IfSome j.ended IsMoment
  pub documents : j.documents ≤ 16
  pub octets : j.octets ≤ j.documents * 16777216
  pub phase : FitsPhase j.phase j

-- what a request asks of a new job
pub record IsNewJob (j : NewJob) : Type 0 where
  pub name : IsJobName j.name
  pub copies : (1 ≤ j.copies) × (j.copies ≤ 999)
  pub impressions : IfSome j.impressions (λ n. n ≤ 100000)

abbrev pub IsCall : Call → Type 0
IsCall (print_job j format payload) = IsNewJob j × (length payload ≤ 16777216)
IsCall (validate_job j) = IsNewJob j
IsCall (create_job j) = IsNewJob j
IsCall (send_document n format payload last) = length payload ≤ 16777216
IsCall (cancel_my_jobs numbers) = ⊤
IsCall (hold_job n) = ⊤
IsCall (release_job n) = ⊤
IsCall (get_jobs which limit mine) = ⊤
IsCall get_printer_attributes = ⊤
IsCall (cancel_job n) = ⊤
IsCall (get_job_attributes n) = ⊤

-- the numbers of a report
pub record IsReport (r : Report) : Type 0 where
  pub job : IsPositive r.job
  pub seq : IsPositive r.seq
  pub count : r.count ≤ 100000000

abbrev pub IsGrantRow : GrantRow → Type 0
IsGrantRow g = IsGrant g.batch g.account g.pages

-- an event whose numbers, lengths and texts are within the limits
abbrev pub IsEvent : Event → Type 0
IsEvent (ask caller call) = IsOwner caller × IsCall call
IsEvent (tell r) = IsReport r
IsEvent (grant new) = (length new ≤ 16777216) × All IsGrantRow new
IsEvent expire = ⊤

-- pages of an account that a sum over jobs can't take past 64 bits
abbrev pub IsAmount : ℤ → Type 0
IsAmount = IsWithin (2 ^ 60)

-- what a sound world gives of an account file's row
pub record IsKnown (k : KnownGrant) : Type 0 where
  pub granted : k.granted ≤ 1000000000
  pub free : IfSome k.free IsAmount

-- a scene as each sound world gives it
pub record IsFair (s : Scene) : Type 0 where
  pub settings : AreSettings s.settings
  pub jobs : All IsSoundJob s.jobs
  pub few : length s.jobs < 2 ^ 31
  pub free : All (λ a. IsAmount a.free) s.free
  pub next : 1 ≤ s.next
  pub queued : s.counts.queued < 2 ^ 31
  pub report : IfSome s.report (λ k. k.total ≤ 100000000)
  pub known : All IsKnown s.known

-- the reply to a request, whose jobs and numbers are within their limits
abbrev pub IsSoundReply : Reply → Type 0
IsSoundReply (Refused code) = ⊤
IsSoundReply Done = ⊤
IsSoundReply (Jobs js) = All IsSoundJob js
IsSoundReply (Printer state queued accepting) = queued < 2 ^ 31
IsSoundReply (Told state count) = ⊥
IsSoundReply (NotTold refusal) = ⊥
IsSoundReply (Added new repeats) = ⊥
IsSoundReply (NotAdded refusal row) = ⊥
IsSoundReply (Expired ended) = ⊥

-- the answer to a report
abbrev pub IsReportReply : Reply → Type 0
IsReportReply (Told state count) = count ≤ 100000000
IsReportReply (NotTold refusal) = ⊤
IsReportReply _ = ⊥

-- the answer to the rows of an account file
abbrev pub IsGrantReply : Reply → Type 0
IsGrantReply (Added new repeats) = new + repeats ≤ 16777216
IsGrantReply (NotAdded refusal row) = (1 ≤ row) × (row ≤ 16777216)
IsGrantReply _ = ⊥

-- the answer to a sweep
abbrev pub IsSweepReply : Reply → Type 0
IsSweepReply (Expired ended) = ended < 2 ^ 31
IsSweepReply _ = ⊥

-- each kind of event has replies of its own
abbrev pub IsReplyTo : Event → Reply → Type 0
IsReplyTo (ask caller call) r = IsSoundReply r
IsReplyTo (tell report) r = IsReportReply r
IsReplyTo (grant new) r = IsGrantReply r
IsReplyTo expire r = IsSweepReply r

-- a change whose jobs are within their limits, and whose document is of one of them
pub record IsSoundChange (c : Change) : Type 0 where
  pub jobs : All IsSoundJob c.jobs
  pub document : IfSome c.document (λ k. IsSome (job_at k.job c.jobs))
