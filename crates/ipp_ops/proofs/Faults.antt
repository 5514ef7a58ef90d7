-- What the code of a reply tells: 0x0505 stands for a fault alone, which no check and no answer of the machine has, and a
-- reply of the machine that refuses leaves the world.
use Rattle.std.proofs.Common.{◌≡◌, ℕ, List, [], ◌∷◌, ◌++◌, Bool, true, false, refl, ap, sym, ◌∙◌, subst, Ok, Err}
use Rattle.std.specs.Prelude.{Option, Some, None, if◌then◌else◌, ⊤, ◌==◌, ◌||◌, nat_le, nat_lt, map, bytes_eq}
use Rattle.std.specs.List.{list_all}
use Rattle.std.specs.Option.{ok_or}
use Rattle.std.specs.Result.{result_err}
use Rattle.ipp_wire.specs.declared.view.Head.{Head}
use Rattle.ipp_wire.specs.Message.{Group, Message, Spells, head_of, spelling}
use Rattle.ipp_wire.specs.Bare.{bare, is_known_version}
use Rattle.queue_types.specs.declared.document.Format.{Format}
use Rattle.queue_types.specs.declared.job.Job.{Job}
use Rattle.queue_types.specs.declared.job.Phase.{Phase}
use Rattle.queue_types.specs.declared.job.Phase.TheVariants.{Waiting, Running, Stopped}
use Rattle.queue_types.specs.declared.event.Reply.{Reply}
use Rattle.queue_types.specs.declared.event.Reply.TheVariants.{Refused, Done, Jobs, Printer}
use Rattle.queue_types.specs.declared.event.Scene.{Scene}
use Rattle.queue_types.specs.Event.{Call, Change, Decision, ask, print_job, validate_job, create_job, send_document, cancel_job, cancel_my_jobs, hold_job, release_job, get_job_attributes, get_jobs, get_printer_attributes}
use Rattle.queue_types.specs.Operators.{is_operator}
use Rattle.queue_core.specs.Machine.{call_row, cancel_row, canceled_by, cause, is_cancelable, all_canceled, are_there, cancel_my_jobs_row, hold_in, let_print, release_in, is_sendable, document_sent, send_in, becomes, of_own, of_seen, entered, answered, new_job, new_document, unless_refused, no_change, refused as refused_row}
use Rattle.queue_core.specs.World.{World, cut, made_on}
use Rattle.queue_types.specs.Settings.{SettingValues}
use Rattle.ipp_reply.specs.declared.operation.Operation.{Operation}
use Rattle.ipp_ops.specs.declared.check.Check.{Check}
use Rattle.ipp_ops.specs.declared.check.Check.TheVariants as check
use Rattle.ipp_reply.specs.Wanted.{Rows, job_rows, printer_rows}
use Rattle.ipp_reply.specs.Operations.{operation_of}
use Rattle.ipp_reply.specs.Unsupported.{Unsupported, is_listed}
use Rattle.ipp_request.specs.Unsupported.{unsupported}
use Rattle.ipp_ops.specs.Checks.{code, refusal}
use Rattle.ipp_request.specs.Reading.{groups_begin, request_by}
use Rattle.ipp_request.specs.Unsupported.{is_refused_for}
use Rattle.ipp_request.specs.Request.{Request, request_for}
use Rattle.ipp_ops.specs.Verdict.{Verdict, passed, refused, verdict, request_verdict, listed_verdict, checked_verdict}
use Rattle.ipp_reply.specs.Reply.{with_groups, unsupported_groups, reply_of}
use Rattle.ipp_reply.specs.JobReply.{job_group}
use Rattle.ipp_reply.specs.PrinterReply.{printer_group}
use Rattle.ipp_ops.specs.Answer.{Answers, IsVerdictOn, by_head, malformed, request, is_fault, is_refusal, outcome, refusal_to}

-- a reply with this code is no fault
abbrev IsQuiet : ℕ → Type 0
IsQuiet code = (h : Head) (gs : List Group) → is_fault (spelling (with_groups (bare h code) gs)) ≡ false

-- ---- what is refused by a check

abbrev QuietVerdict : Verdict → Type 0
QuietVerdict (refused code u) = IsQuiet code
QuietVerdict (passed caller call rows u) = ⊤

check_quiet : (c : Check) → IsQuiet (code c)
check_quiet check.Charset = λ h gs. refl
check_quiet _ = λ h gs. refl

past_quiet : (r : Request) (u : Unsupported) (b : Bool) → QuietVerdict (listed_verdict r u b)
past_quiet r u true = λ h gs. refl
past_quiet r u false = tt

with_quiet : (r : Request) (c : Option Check) → QuietVerdict (checked_verdict r c)
with_quiet r (Some c) = check_quiet c
with_quiet r None = past_quiet r (unsupported r) (is_refused_for r (unsupported r))

ordered_quiet : (b : Bool) (o : Operation) (m : Message) → QuietVerdict (request_verdict (if b then Ok (request_for o m) else Err 0x0400))
ordered_quiet true o m = with_quiet (request_for o m) (refusal (request_for o m))
ordered_quiet false o m = λ h gs. refl

head_verdict_quiet : (spoken : Bool) (o : Option Operation) (m : Message) → QuietVerdict (request_verdict (request_by (if spoken then ok_or o 0x0501 else Err 0x0503) m))
head_verdict_quiet false o m = λ h gs. refl
head_verdict_quiet true None m = λ h gs. refl
head_verdict_quiet true (Some o) m = ordered_quiet (groups_begin m.groups) o m

verdict_quiet : (m : Message) → QuietVerdict (verdict m)
verdict_quiet m = head_verdict_quiet (is_known_version m.head) (operation_of m.head.code) m

head_quiet : (spoken : Bool) (o : Option Operation) (code : ℕ) → result_err (if spoken then ok_or o 0x0501 else Err 0x0503) ≡ Some code → IsQuiet code
head_quiet false o code e = let same : 0x0503 ≡ code = cc in subst IsQuiet same (λ h gs. refl)
head_quiet true None code e = let same : 0x0501 ≡ code = cc in subst IsQuiet same (λ h gs. refl)
head_quiet true (Some o) code e = absurd (cc)

-- ---- what the machine refuses

-- a decision that refuses changes nothing, and its code is no fault; no decision on a request has another form
abbrev Quiet : Reply → Change → Type 0
Quiet (Refused code) change = IsQuiet code × (change ≡ no_change)
Quiet Done change = ⊤
Quiet (Jobs js) change = ⊤
Quiet (Printer state queued accepting) change = ⊤
Quiet _ change = ⊥

abbrev QuietDecision : Decision → Type 0
QuietDecision d = Quiet d.reply d.change

not_possible : QuietDecision (refused_row 0x0404)
not_possible = (λ h gs. refl, refl)

not_found : QuietDecision (refused_row 0x0406)
not_found = (λ h gs. refl, refl)

abbrev refused_by_limits : Bool → Bool → Option ℕ
refused_by_limits full ended = if full then Some 0x0404 else (if ended then Some 0x0506 else None)

new_quiet : (full ended : Bool) (d : Decision) → QuietDecision d → QuietDecision (unless_refused (refused_by_limits full ended) d)
new_quiet true ended d q = not_possible
new_quiet false true d q = (λ h gs. refl, refl)
new_quiet false false d q = q

-- a test lets the row answer, or not possible
test_quiet : (test : Bool) (d : Decision) → QuietDecision d → QuietDecision (if test then d else refused_row 0x0404)
test_quiet true d q = q
test_quiet false d q = not_possible

send_quiet : (s : Scene) (j : Job) (format : Format) (payload : List ℕ) (last : Bool) → QuietDecision (send_in s j format payload last)
send_quiet s j format payload last =
    test_quiet (is_sendable j payload) (document_sent s j format payload last) tt

hold_quiet : (p : Phase) (s : Scene) (j : Job) → QuietDecision (hold_in p s j)
hold_quiet Waiting s j = tt
hold_quiet _ s j = not_possible

either_quiet : (hold : Bool) (d e : Decision) → QuietDecision d → QuietDecision e → QuietDecision (if hold then d else e)
either_quiet true d e p q = p
either_quiet false d e p q = q

release_quiet : (p : Phase) (s : Scene) (j : Job) → QuietDecision (release_in p s j)
release_quiet Waiting s j = either_quiet j.hold (let_print s j) (answered Done) (test_quiet _ (becomes s (record j { hold = false })) tt) tt
release_quiet Running s j = tt
release_quiet Stopped s j = tt
release_quiet _ s j = not_possible

named_quiet : (there : Bool) (d : Decision) → QuietDecision d → QuietDecision (if there then d else refused_row 0x0406)
named_quiet true d q = q
named_quiet false d q = not_found

cancel_my_quiet : (s : Scene) (now : ℕ) (numbers : Option (List ℕ)) → QuietDecision (cancel_my_jobs_row s now numbers)
cancel_my_quiet s now None = tt
cancel_my_quiet s now (Some numbers) =
    named_quiet (are_there s.jobs numbers) (if list_all is_cancelable s.jobs then all_canceled s now s.jobs else refused_row 0x0404)
    (test_quiet (list_all is_cancelable s.jobs) (all_canceled s now s.jobs) tt)

own_quiet : (caller : List ℕ) (row : Job → Decision) → ((j : Job) → QuietDecision (row j)) → (js : List Job) → QuietDecision (of_own caller row js)
own_quiet caller row q [] = not_found
own_quiet caller row q (j ∷ js) = named_quiet (bytes_eq j.owner caller) (row j) (q j)

seen_quiet : (operators : List (List ℕ)) (caller : List ℕ) (row : Job → Decision) → ((j : Job) → QuietDecision (row j)) → (js : List Job) → QuietDecision (of_seen operators caller row js)
seen_quiet operators caller row q [] = not_found
seen_quiet operators caller row q (j ∷ js) = named_quiet (bytes_eq j.owner caller || is_operator operators caller) (row j) (q j)

machine_quiet : (s : Scene) (now : ℕ) (caller : List ℕ) (call : Call) → QuietDecision (call_row s now caller call)
machine_quiet s now caller (print_job j format payload) = new_quiet (nat_le 100 s.live) (nat_lt 2147483647 s.next) (entered s (new_job s now caller false j payload) (new_document s.next format payload)) tt
machine_quiet s now caller (create_job j) = new_quiet (nat_le 100 s.live) (nat_lt 2147483647 s.next) (entered s (new_job s now caller true j []) None) tt
machine_quiet s now caller (send_document n format payload last) = own_quiet caller (λ j. send_in s j format payload last) (λ j. send_quiet s j format payload last) s.jobs
machine_quiet s now caller (hold_job n) = own_quiet caller (λ j. hold_in j.phase s j) (λ j. hold_quiet j.phase s j) s.jobs
machine_quiet s now caller (release_job n) = own_quiet caller (λ j. release_in j.phase s j) (λ j. release_quiet j.phase s j) s.jobs
machine_quiet s now caller (cancel_my_jobs numbers) = cancel_my_quiet s now numbers
machine_quiet s now caller (validate_job j) = new_quiet (nat_le 100 s.live) (nat_lt 2147483647 s.next) (answered Done) tt
machine_quiet s now caller (get_jobs which limit mine) = tt
machine_quiet s now caller get_printer_attributes = tt
machine_quiet s now caller (cancel_job n) = seen_quiet s.settings.operators caller (λ j. cancel_row s now (cause caller j) j) (λ j. test_quiet _ (becomes s (canceled_by (cause caller j) now j)) tt) s.jobs
machine_quiet s now caller (get_job_attributes n) = seen_quiet s.settings.operators caller (λ j. answered (Jobs (j ∷ []))) (λ j. tt) s.jobs

-- ---- the reply

success_quiet : (listed : Bool) (h : Head) (gs : List Group) → is_fault (spelling (with_groups (bare h (if listed then 0x0001 else 0x0000)) gs)) ≡ false
success_quiet true h gs = refl
success_quiet false h gs = refl

reply_quiet : (r : Reply) (change : Change) (h : Head) (rows : Rows) (u : Unsupported) (s : SettingValues) (now : ℕ) → Quiet r change → is_fault (spelling (reply_of r h rows u s now)) ≡ false
reply_quiet (Refused code) change h rows u s now q = q.0 h (if code == 0x040B then unsupported_groups u else [])
reply_quiet Done change h rows u s now q = success_quiet (is_listed u) h (unsupported_groups u)
reply_quiet (Jobs js) change h rows u s now q = success_quiet (is_listed u) h (unsupported_groups u ++ map (job_group s.uri now (job_rows rows)) js)
reply_quiet (Printer state queued accepting) change h rows u s now q = success_quiet (is_listed u) h (unsupported_groups u ++ printer_group (record { settings = s; now = now; state = state; queued = queued; accepting = accepting }) (printer_rows rows) ∷ [])
reply_quiet _ change h rows u s now q = absurd q

outcome_tells : (v : Verdict) (h : Head) (w : World) (now : ℕ) → QuietVerdict v → is_fault (spelling (outcome v h w now).reply) ≡ false
outcome_tells (refused code u) h w now q = q h (if code == 0x040B then unsupported_groups u else [])
outcome_tells (passed caller call rows u) h w now q = reply_quiet _ _ h rows u w.settings now (machine_quiet (cut w now (ask caller call)) now caller call)

-- nothing that refuses bytes is a fault
bytes_quiet : (b : List ℕ) (v : Verdict) → IsVerdictOn b v → QuietVerdict v
bytes_quiet b _ (by_head code found) = head_quiet (is_known_version (head_of b)) (operation_of (head_of b).code) code found
bytes_quiet b _ (malformed found unspelled) = λ h gs. refl
bytes_quiet b _ (request m spelled) = verdict_quiet m

-- so their answer is none
pub answer_tells : (w : World) (now : ℕ) (b : List ℕ) (new : World) (out : List ℕ) → Answers w now b new out → is_fault out ≡ false
answer_tells w now b new out a = ap is_fault a.spelled.bytes ∙ outcome_tells a.verdict (head_of b) w now (bytes_quiet b a.verdict a.on_bytes)

-- nor is the reply that tells what refuses them
pub refusal_tells : (b : List ℕ) (code : ℕ) (u : Unsupported) (s : SettingValues) (now : ℕ) (out : List ℕ) → IsVerdictOn b (refused code u) → Spells (refusal_to (head_of b) code u s now) out → is_fault out ≡ false
refusal_tells b code u s now out on spelled =
    let quiet : IsQuiet code = bytes_quiet b (refused code u) on in
    ap is_fault spelled.bytes ∙ quiet (head_of b) (if code == 0x040B then unsupported_groups u else [])

-- ---- a reply that refuses

success_small : (listed : Bool) (h : Head) (gs : List Group) → is_refusal (spelling (with_groups (bare h (if listed then 0x0001 else 0x0000)) gs)) ≡ false
success_small true h gs = refl
success_small false h gs = refl

-- a decision whose reply refuses leaves the world
reply_keeps : (r : Reply) (change : Change) (h : Head) (rows : Rows) (u : Unsupported) (s : SettingValues) (now : ℕ) (w : World) → Quiet r change → is_refusal (spelling (reply_of r h rows u s now)) ≡ true → made_on change w ≡ w
reply_keeps (Refused code) change h rows u s now w q e = ap (λ (c : Change). made_on c w) q.1
reply_keeps Done change h rows u s now w q e = let small = success_small (is_listed u) h (unsupported_groups u) in absurd (cc)
reply_keeps (Jobs js) change h rows u s now w q e = let small = success_small (is_listed u) h (unsupported_groups u ++ map (job_group s.uri now (job_rows rows)) js) in absurd (cc)
reply_keeps (Printer state queued accepting) change h rows u s now w q e = let small = success_small (is_listed u) h (unsupported_groups u ++ printer_group (record { settings = s; now = now; state = state; queued = queued; accepting = accepting }) (printer_rows rows) ∷ []) in absurd (cc)
reply_keeps _ change h rows u s now w q e = absurd q

outcome_keeps : (v : Verdict) (h : Head) (w : World) (now : ℕ) → is_refusal (spelling (outcome v h w now).reply) ≡ true → (outcome v h w now).world ≡ w
outcome_keeps (refused code u) h w now e = refl
outcome_keeps (passed caller call rows u) h w now e = reply_keeps _ _ h rows u w.settings now w (machine_quiet (cut w now (ask caller call)) now caller call) e

-- an answer that refuses leaves the world
pub answer_keeps : (w : World) (now : ℕ) (b : List ℕ) (new : World) (out : List ℕ) → Answers w now b new out → is_refusal out ≡ true → new ≡ w
answer_keeps w now b new out a e = a.world ∙ outcome_keeps a.verdict (head_of b) w now (sym (ap is_refusal a.spelled.bytes) ∙ e)
