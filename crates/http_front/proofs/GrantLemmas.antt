-- What a connection leaves of the grants: neither a request nor a report grants pages.
use Rattle.std.proofs.Common.{◌≡◌, ◌∙◌, ℕ, List, [], ◌∷◌, Ok, Err, Bool, refl, ap, true, false, cond}
use Rattle.std.specs.Prelude.{Option, Some, None, Result, bytes_eq, fold, ◌||◌}
use Rattle.std.specs.List.{list_all}
use Rattle.queue_types.specs.Job.{estimate}
use Rattle.queue_types.specs.Event.{Call, Decision, NewDocument, ask, tell, print_job, validate_job, create_job, send_document, cancel_job, cancel_my_jobs, hold_job, release_job, get_job_attributes, get_jobs, get_printer_attributes}
use Rattle.queue_core.specs.World.{World, cut, put_grant}
use Rattle.queue_types.specs.Operators.{is_operator}
use Rattle.queue_core.specs.Machine.{step, call_row, answered, refused, becomes, entered, new_job, new_document, new_refusal, unless_refused, validate_job_row, canceled_by, cause, is_cancelable, cancel_row, all_canceled, are_there, cancel_my_jobs_row, is_sendable, document_sent, send_in, hold_in, has_pages, let_print, release_in, of_own, of_seen, accepted_where, report_row}
use Rattle.queue_types.specs.declared.job.Job.{Job}
use Rattle.queue_types.specs.declared.job.Phase.TheVariants.{Waiting}
use Rattle.queue_types.specs.declared.event.Reply.TheVariants.{Jobs, Done, Told, NotTold}
use Rattle.queue_types.specs.declared.event.Scene.{Scene}
use Rattle.queue_types.specs.declared.event.KeptReport.{KeptReport}
use Rattle.queue_types.specs.declared.event.Report.{Report}
use Rattle.queue_types.specs.declared.event.ReportRefusal.TheVariants.{Conflict}
use Rattle.queue_core.specs.Reports.{is_same_report, reported}
use Rattle.ipp_wire.specs.declared.view.Head.{Head}
use Rattle.ipp_wire.specs.Message.{head_of}
use Rattle.ipp_ops.specs.Answer.{outcome}
use Rattle.ipp_ops.specs.Verdict.{Verdict, passed, refused as refused_by}
use Rattle.device_lines.specs.Reports.{BringsAbout}
use Rattle.device_lines.specs.declared.line.LineFault.{LineFault}
use Rattle.http_head.specs.declared.target.Target.{Target}
use Rattle.http_head.specs.declared.target.Target.TheVariants.{Ipp, Report as ReportTarget, Queue, Document as DocumentTarget}
use Rattle.http_front.specs.Turns.{Turn, IsTurn, IsAnswered, plan}
use Rattle.http_front.specs.Connections.{AreTurns, world_after}

-- it grants nothing
abbrev IsGrantless : Decision → Type 0
IsGrantless d = d.change.grants ≡ []

-- ---- a request

enters_grantless : (s : Scene) (x : Job) (document : Option NewDocument) → IsGrantless (unless_refused (new_refusal s) (entered s x document))
enters_grantless s x document = elim (new_refusal s) as (λ o. IsGrantless (unless_refused o (entered s x document))) [ None ↦ refl | Some code ↦ refl ]

valid_grantless : (s : Scene) → IsGrantless (validate_job_row s)
valid_grantless s = elim (new_refusal s) as (λ o. IsGrantless (unless_refused o (answered Done))) [ None ↦ refl | Some code ↦ refl ]

own_grantless : (caller : List ℕ) (row : Job → Decision) (js : List Job) → ((j : Job) → IsGrantless (row j)) → IsGrantless (of_own caller row js)
own_grantless caller row [] each = refl
own_grantless caller row (j ∷ js) each = elim (bytes_eq j.owner caller) as (λ b. IsGrantless (cond b (row j) (refused 0x0406))) [ true ↦ each j | false ↦ refl ]

seen_grantless : (operators : List (List ℕ)) (caller : List ℕ) (row : Job → Decision) (js : List Job) → ((j : Job) → IsGrantless (row j)) → IsGrantless (of_seen operators caller row js)
seen_grantless operators caller row [] each = refl
seen_grantless operators caller row (j ∷ js) each = elim (bytes_eq j.owner caller || is_operator operators caller) as (λ (b : Bool). IsGrantless (cond b (row j) (refused 0x0406))) [ true ↦ each j | false ↦ refl ]

let_grantless : (s : Scene) (j : Job) → IsGrantless (let_print s j)
let_grantless s j = elim (has_pages s.free (estimate j)) as (λ b. IsGrantless (cond b (becomes s (record j { hold = false })) (refused 0x0404))) [ true ↦ refl | false ↦ refl ]

held_grantless : (s : Scene) (j : Job) → IsGrantless (hold_in j.phase s j)
held_grantless s j = elim j.phase as (λ p. IsGrantless (hold_in p s j)) [
  | Waiting ↦ refl
  | _ ↦ refl
]

released_grantless : (s : Scene) (j : Job) → IsGrantless (release_in j.phase s j)
released_grantless s j = elim j.phase as (λ p. IsGrantless (release_in p s j)) [
  | Waiting ↦ elim j.hold as (λ b. IsGrantless (cond b (let_print s j) (answered Done))) [ true ↦ let_grantless s j | false ↦ refl ]
  | _ ↦ refl
]

named_grantless : (s : Scene) (now : ℕ) (numbers : List ℕ) → IsGrantless (cancel_my_jobs_row s now (Some numbers))
named_grantless s now numbers =
    elim (are_there s.jobs numbers) as (λ b. IsGrantless (cond b (cond (list_all is_cancelable s.jobs) (all_canceled s now s.jobs) (refused 0x0404)) (refused 0x0406))) [
      | true ↦ elim (list_all is_cancelable s.jobs) as (λ b. IsGrantless (cond b (all_canceled s now s.jobs) (refused 0x0404))) [ true ↦ refl | false ↦ refl ]
      | false ↦ refl
    ]

row_grantless : (s : Scene) (now : ℕ) (caller : List ℕ) (call : Call) → IsGrantless (call_row s now caller call)
row_grantless s now caller (print_job j format payload) = enters_grantless s (new_job s now caller false j payload) (new_document s.next format payload)
row_grantless s now caller (validate_job j) = valid_grantless s
row_grantless s now caller (create_job j) = enters_grantless s (new_job s now caller true j []) None
row_grantless s now caller (send_document n format payload last) = own_grantless caller (λ j. send_in s j format payload last) s.jobs (λ j.
    elim (is_sendable j payload) as (λ b. IsGrantless (cond b (document_sent s j format payload last) (refused 0x0404))) [ true ↦ refl | false ↦ refl ])
row_grantless s now caller (cancel_job n) = seen_grantless s.settings.operators caller (λ j. cancel_row s now (cause caller j) j) s.jobs (λ j.
    elim (is_cancelable j) as (λ b. IsGrantless (cond b (becomes s (canceled_by (cause caller j) now j)) (refused 0x0404))) [ true ↦ refl | false ↦ refl ])
row_grantless s now caller (cancel_my_jobs None) = refl
row_grantless s now caller (cancel_my_jobs (Some numbers)) = named_grantless s now numbers
row_grantless s now caller (hold_job n) = own_grantless caller (λ j. hold_in j.phase s j) s.jobs (held_grantless s)
row_grantless s now caller (release_job n) = own_grantless caller (λ j. release_in j.phase s j) s.jobs (released_grantless s)
row_grantless s now caller (get_job_attributes n) = seen_grantless s.settings.operators caller (λ j. answered (Jobs (j ∷ []))) s.jobs (λ j. refl)
row_grantless s now caller (get_jobs which limit mine) = refl
row_grantless s now caller get_printer_attributes = refl

-- ---- a report

taken_grantless : (s : Scene) (r : Report) (o : Option Job) → IsGrantless (accepted_where s r o)
taken_grantless s r None = refl
taken_grantless s r (Some j) = refl

report_grantless : (s : Scene) (now : ℕ) (r : Report) (js : List Job) (kept : Option KeptReport) → IsGrantless (report_row s now r js kept)
report_grantless s now r [] kept = refl
report_grantless s now r (j ∷ js) None = taken_grantless s r (reported r now j)
report_grantless s now r (j ∷ js) (Some k) =
    elim (is_same_report r k.report) as (λ b. IsGrantless (cond b (answered (Told k.state k.total)) (answered (NotTold Conflict)))) [ true ↦ refl | false ↦ refl ]

-- ---- a step of the machine

pub asked : (w : World) (now : ℕ) (caller : List ℕ) (call : Call) → (step w now (ask caller call)).world.grants ≡ w.grants
asked w now caller call = ap (λ gs. fold put_grant w.grants gs) (row_grantless (cut w now (ask caller call)) now caller call)

pub told : (w : World) (now : ℕ) (r : Report) → (step w now (tell r)).world.grants ≡ w.grants
told w now r = ap (λ gs. fold put_grant w.grants gs) (report_grantless (cut w now (tell r)) now r (cut w now (tell r)).jobs (cut w now (tell r)).report)

-- ---- a turn of a connection

same : (w u : World) → u ≡ w → u.grants ≡ w.grants
same w u is = ap (λ (z : World). z.grants) is

by_verdict : (v : Verdict) (h : Head) (w u : World) (now : ℕ) → u ≡ (outcome v h w now).world → u.grants ≡ w.grants
by_verdict (refused_by code list) h w u now is = same w u is
by_verdict (passed caller call rows list) h w u now is = ap (λ (z : World). z.grants) is ∙ asked w now caller call

by_line : (read : Result Report LineFault) (w u : World) (now : ℕ) (out : List ℕ) → BringsAbout read w now u out → u.grants ≡ w.grants
by_line (Ok r) w u now out brings = ap (λ (z : World). z.grants) brings.0 ∙ told w now r
by_line (Err fault) w u now out brings = same w u brings.0

by_answer : (now : ℕ) (w : World) (target : Target) (content : List ℕ) (fault : Bool) (kind reply : List ℕ) (u : World) → IsAnswered now w target content fault kind reply u → u.grants ≡ w.grants
by_answer now w Ipp content true kind reply u a = same w u a.answers.1
by_answer now w Ipp content false kind reply u a = by_verdict a.answers.verdict (head_of content) w u now a.answers.world
by_answer now w ReportTarget content true kind reply u a = same w u a.answers.1
by_answer now w ReportTarget content false kind reply u a = by_line a.answers.reading w u now reply a.answers.brings
by_answer now w Queue content fault kind reply u a = same w u a.after_is
by_answer now w (DocumentTarget n) content fault kind reply u a = same w u a.after_is

by_turn : (now : ℕ) (w : World) (t : Turn) → IsTurn now w t → t.after.grants ≡ w.grants
by_turn now w t is = by_answer now w (plan t).target t.content t.is_fault t.media_type t.reply t.after is.answered

-- ---- a connection

by_turns : (now : ℕ) (w : World) (ts : List Turn) → AreTurns now w ts → (world_after w ts).grants ≡ w.grants
by_turns now w [] are = refl
by_turns now w (t ∷ ts) are =
    by_turns now t.after ts are.1 ∙ by_turn now w t are.0

pub grants_kept : (now : ℕ) (w u : World) (ts : List Turn) → AreTurns now w ts → u ≡ world_after w ts → u.grants ≡ w.grants
grants_kept now w u ts are is = ap (λ (z : World). z.grants) is ∙ by_turns now w ts are
