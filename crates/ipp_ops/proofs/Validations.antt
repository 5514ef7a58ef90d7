-- A Validate-Job is answered as the Print-Job of the same bytes.
use Rattle.std.proofs.Common.{◌≡◌, ℕ, ◌<◌, ◌^◌, ◌==◌, List, [], ◌∷◌, ◌++◌, Bool, true, false, refl, sym, ap, subst, ◌∙◌, lit<, Ok, Err, drop}
use Rattle.std.specs.Prelude.{Option, Some, None, filter, not, slice_index, if◌then◌else◌}
use Rattle.std.specs.List.{flat_map}
use Rattle.std.specs.Int.{w16, w32, to_be_bytes}
use Rattle.std.specs.Result.{result_err}
use Rattle.ipp_wire.specs.declared.view.Head.{Head}
use Rattle.ipp_wire.specs.Bare.{bare, is_known_version}
use Rattle.ipp_wire.specs.Message.{Attribute, Group, Message, Spells, group_bytes, head_of}
use Rattle.queue_types.specs.Event.{NewDocument, ask, print_job}
use Rattle.queue_types.specs.Settings.{SettingValues}
use Rattle.queue_types.specs.declared.event.Reply.TheVariants.{Refused, Done, Jobs}
use Rattle.queue_types.specs.declared.event.Scene.{Scene}
use Rattle.queue_types.specs.declared.job.Job.{Job}
use Rattle.queue_core.specs.Machine.{answered, entered, new_document, new_refusal, unless_refused, new_job as entering_job}
use Rattle.queue_core.specs.World.{World, cut, made_on}
use Rattle.ipp_reply.specs.declared.operation.Operation.TheVariants.{PrintJob, ValidateJob}
use Rattle.ipp_reply.specs.JobReply.{job_group}
use Rattle.ipp_reply.specs.Reply.{reply_of, success, with_groups}
use Rattle.ipp_reply.specs.Unsupported.{Unsupported, is_listed, nothing}
use Rattle.ipp_reply.specs.Wanted.{Rows, job_rows, no_rows}
use Rattle.ipp_request.specs.Reading.{groups_begin, request_by}
use Rattle.ipp_request.specs.Request.{caller, request_for}
use Rattle.ipp_request.specs.Unsupported.{is_refused_for, unsupported}
use Rattle.ipp_ops.specs.declared.check.Check.{Check}
use Rattle.ipp_ops.specs.Answer.{Answers, IsVerdictOn, by_head, malformed, request, outcome}
use Rattle.ipp_ops.specs.Checks.{code, refusal}
use Rattle.ipp_ops.specs.NewJob.{new_job, format}
use Rattle.ipp_ops.specs.Validations.{AreAlike, both_refused, both_passed, bytes_asking, without_jobs}
use Rattle.ipp_ops.specs.Verdict.{Verdict, refused, verdict, request_verdict, listed_verdict, checked_verdict}
use Rattle.ipp_ops.proofs.Laws.{one_verdict}

-- ---- one message, with the one operation or the other

abbrev asking : ℕ → Message → Message
asking code m = record m { head = record m.head { code = code } }

past : (m : Message) (u : Unsupported) (b : Bool) → AreAlike (listed_verdict (request_for PrintJob m) u b) (listed_verdict (request_for ValidateJob m) u b)
past m u true = both_refused 0x040B u
past m u false = let r = request_for PrintJob m in both_passed (caller r) (new_job r) (format r) m.payload _ _ u

checked : (m : Message) (c : Option Check) → AreAlike (checked_verdict (request_for PrintJob m) c) (checked_verdict (request_for ValidateJob m) c)
checked m (Some c) = both_refused (code c) nothing
checked m None = let r = request_for PrintJob m in past m (unsupported r) (is_refused_for r (unsupported r))

ordered : (b : Bool) (m : Message) → AreAlike (request_verdict (if b then Ok (request_for PrintJob m) else Err 0x0400)) (request_verdict (if b then Ok (request_for ValidateJob m) else Err 0x0400))
ordered true m = checked m (refusal (request_for PrintJob m))
ordered false m = both_refused 0x0400 nothing

by_version : (b : Bool) (m : Message) → AreAlike (request_verdict (request_by (if b then Ok PrintJob else Err 0x0503) (asking 0x0002 m))) (request_verdict (request_by (if b then Ok ValidateJob else Err 0x0503) (asking 0x0004 m)))
by_version true m = ordered (groups_begin m.groups) m
by_version false m = both_refused 0x0503 nothing

messages_alike : (m : Message) → AreAlike (verdict (asking 0x0002 m)) (verdict (asking 0x0004 m))
messages_alike m = by_version (is_known_version m.head) m

-- ---- bytes, alike but for the operation

-- with another operation in the bytes there is another in the message
respelled : (x y : ℕ) → y < 2 ^ 16 → to_be_bytes w16 y ≡ 0x00 ∷ y ∷ [] → (major minor : ℕ) (rest : List ℕ) (m : Message)
    → Spells m (bytes_asking x major minor rest) → Spells (asking y m) (bytes_asking y major minor rest)
respelled x y fits e major minor rest m s = record {
  message = record {
    head = record { major = s.message.head.major; minor = s.message.head.minor; code = fits; request_id = s.message.head.request_id };
    groups = s.message.groups;
  };
  bytes =
      ap (λ (t : List ℕ). slice_index t 0 ∷ slice_index t 1 ∷ 0x00 ∷ y ∷ drop 4 t) s.bytes
      ∙ ap (λ (t : List ℕ). m.head.major ∷ m.head.minor ∷ (t ++ (to_be_bytes w32 m.head.request_id ++ (flat_map group_bytes m.groups ++ 3 ∷ m.payload)))) (sym e);
}

to_print : (x major minor : ℕ) (rest : List ℕ) (m : Message) → Spells m (bytes_asking x major minor rest) → Spells (asking 0x0002 m) (bytes_asking 0x0002 major minor rest)
to_print x major minor rest m s = respelled x 0x0002 (lit< tt) refl major minor rest m s

to_validate : (x major minor : ℕ) (rest : List ℕ) (m : Message) → Spells m (bytes_asking x major minor rest) → Spells (asking 0x0004 m) (bytes_asking 0x0004 major minor rest)
to_validate x major minor rest m s = respelled x 0x0004 (lit< tt) refl major minor rest m s

abbrev OneSpelling : Type 0
OneSpelling = (m n : Message) (b : List ℕ) → Spells m b → Spells n b → m ≡ n

-- bytes that are to be printed spell a message that asks it
prints : OneSpelling → (major minor : ℕ) (rest : List ℕ) (m : Message) → Spells m (bytes_asking 0x0002 major minor rest) → asking 0x0002 m ≡ m
prints one major minor rest m s = one (asking 0x0002 m) m (bytes_asking 0x0002 major minor rest) (to_print 0x0002 major minor rest m s) s

validates : OneSpelling → (major minor : ℕ) (rest : List ℕ) (m : Message) → Spells m (bytes_asking 0x0004 major minor rest) → asking 0x0004 m ≡ m
validates one major minor rest m s = one (asking 0x0004 m) m (bytes_asking 0x0004 major minor rest) (to_validate 0x0004 major minor rest m s) s

-- ---- the verdicts

head_alike : (b : Bool) (c : ℕ) → result_err {E = ℕ} (if b then Ok PrintJob else Err 0x0503) ≡ Some c → result_err {E = ℕ} (if b then Ok ValidateJob else Err 0x0503) ≡ Some c
head_alike true c e = absurd (cc)
head_alike false c e = e

no_head_alike : (b : Bool) → result_err {E = ℕ} (if b then Ok PrintJob else Err 0x0503) ≡ None → result_err {E = ℕ} (if b then Ok ValidateJob else Err 0x0503) ≡ None
no_head_alike true e = refl
no_head_alike false e = absurd (cc)

pub verdicts_alike : OneSpelling → (major minor : ℕ) (rest : List ℕ) (v w : Verdict)
    → IsVerdictOn (bytes_asking 0x0002 major minor rest) v → IsVerdictOn (bytes_asking 0x0004 major minor rest) w → AreAlike v w
verdicts_alike one major minor rest v w (by_head c e) q =
    let b = bytes_asking 0x0004 major minor rest in
    let same : refused c nothing ≡ w = one_verdict one b (refused c nothing) w (by_head c (head_alike (is_known_version (head_of b)) c e)) q in
    subst (λ (x : Verdict). AreAlike (refused c nothing) x) same (both_refused c nothing)
verdicts_alike one major minor rest v w (malformed e n) q =
    let b = bytes_asking 0x0004 major minor rest in
    let same : refused 0x0400 nothing ≡ w = one_verdict one b (refused 0x0400 nothing) w
    (malformed (no_head_alike (is_known_version (head_of b)) e) (λ m s. n (asking 0x0002 m) (to_print 0x0004 major minor rest m s))) q in
    subst (λ (x : Verdict). AreAlike (refused 0x0400 nothing) x) same (both_refused 0x0400 nothing)
verdicts_alike one major minor rest v w (request m s) q =
    let b = bytes_asking 0x0004 major minor rest in
    let same : verdict (asking 0x0004 m) ≡ w = one_verdict one b (verdict (asking 0x0004 m)) w (request (asking 0x0004 m) (to_validate 0x0002 major minor rest m s)) q in
    subst (λ (x : Verdict). AreAlike (verdict m) x) same
    (subst (λ (n : Message). AreAlike (verdict n) (verdict (asking 0x0004 m))) (prints one major minor rest m s) (messages_alike m))

-- ---- the world

keeps : (o : Option ℕ) (w : World) → made_on (unless_refused o (answered Done)).change w ≡ w
keeps None w = refl
keeps (Some code) w = refl

alike_keeps : (v u : Verdict) → AreAlike v u → (h : Head) (w : World) (now : ℕ) → (outcome u h w now).world ≡ w
alike_keeps _ _ (both_refused code u) h w now = refl
alike_keeps _ _ (both_passed caller j format payload shown rows u) h w now = keeps (new_refusal (cut w now (ask caller (print_job j format payload)))) w

verdict_keeps : OneSpelling → (major minor : ℕ) (rest : List ℕ) (v : Verdict) → IsVerdictOn (bytes_asking 0x0004 major minor rest) v
    → (h : Head) (w : World) (now : ℕ) → (outcome v h w now).world ≡ w
verdict_keeps one major minor rest _ (by_head c e) h w now = refl
verdict_keeps one major minor rest _ (malformed e n) h w now = refl
verdict_keeps one major minor rest _ (request m s) h w now =
    subst (λ (n : Message). (outcome (verdict n) h w now).world ≡ w) (validates one major minor rest m s)
    (alike_keeps (verdict (asking 0x0002 m)) (verdict (asking 0x0004 m)) (messages_alike m) h w now)

pub answer_keeps_world : OneSpelling → (w u : World) (now major minor : ℕ) (rest out : List ℕ) → Answers w now (bytes_asking 0x0004 major minor rest) u out → u ≡ w
answer_keeps_world one w u now major minor rest out a = a.world ∙ verdict_keeps one major minor rest a.verdict a.on_bytes (head_of (bytes_asking 0x0004 major minor rest)) w now

-- ---- the reply

abbrev is_no_job : Group → Bool
is_no_job g = not (g.tag == 0x02)

abbrev unsupported_group : List Attribute → Group
unsupported_group attrs = record { tag = 0x05; attributes = attrs }

kept : (b : Bool) (attrs : List Attribute) → filter is_no_job (if b then unsupported_group attrs ∷ [] else []) ≡ (if b then unsupported_group attrs ∷ [] else [])
kept true attrs = refl
kept false attrs = refl

kept_in_refusal : (x b : Bool) (attrs : List Attribute) → filter is_no_job (if x then (if b then unsupported_group attrs ∷ [] else []) else []) ≡ (if x then (if b then unsupported_group attrs ∷ [] else []) else [])
kept_in_refusal true b attrs = kept b attrs
kept_in_refusal false b attrs = refl

left : (b : Bool) (attrs shown : List Attribute) → filter is_no_job ((if b then unsupported_group attrs ∷ [] else []) ++ record { tag = 0x02; attributes = shown } ∷ []) ≡ (if b then unsupported_group attrs ∷ [] else [])
left true attrs shown = refl
left false attrs shown = refl

refusal_replied : (code : ℕ) (h : Head) (rows : Rows) (u : Unsupported) (s : SettingValues) (now : ℕ) → without_jobs (reply_of (Refused code) h rows u s now) ≡ reply_of (Refused code) h rows u s now
refusal_replied code h rows u s now = ap (λ (gs : List Group). with_groups (bare h code) gs) (kept_in_refusal (code == 0x040B) (is_listed u) (u.operation ++ u.job))

success_replied : (j : Job) (h : Head) (shown rows : Rows) (u : Unsupported) (s : SettingValues) (now : ℕ) → without_jobs (reply_of (Jobs (j ∷ [])) h shown u s now) ≡ reply_of Done h rows u s now
success_replied j h shown rows u s now = ap (λ (gs : List Group). with_groups (bare h (success u)) gs) (left (is_listed u) (u.operation ++ u.job) (job_group s.uri now (job_rows shown) j).attributes)

decision_replied : (o : Option ℕ) (scene : Scene) (j : Job) (document : Option NewDocument) (h : Head) (shown rows : Rows) (u : Unsupported) (s : SettingValues) (now : ℕ)
    → reply_of (unless_refused o (answered Done)).reply (record h { code = 0x0004 }) rows u s now ≡ without_jobs (reply_of (unless_refused o (entered scene j document)).reply h shown u s now)
decision_replied None scene j document h shown rows u s now = sym (success_replied j h shown rows u s now)
decision_replied (Some code) scene j document h shown rows u s now = sym (refusal_replied code h shown u s now)

alike_replied : (v u : Verdict) → AreAlike v u → (h : Head) (w : World) (now : ℕ) → (outcome u (record h { code = 0x0004 }) w now).reply ≡ without_jobs (outcome v h w now).reply
alike_replied _ _ (both_refused code u) h w now = sym (refusal_replied code h no_rows u w.settings now)
alike_replied _ _ (both_passed caller j format payload shown rows u) h w now =
    let scene : Scene = cut w now (ask caller (print_job j format payload)) in
    decision_replied (new_refusal scene) scene (entering_job scene now caller false j payload) (new_document scene.next format payload) h shown rows u w.settings now

pub answered_alike : OneSpelling → (w p v : World) (now major minor : ℕ) (rest print validate : List ℕ)
    → Answers w now (bytes_asking 0x0002 major minor rest) p print → Answers w now (bytes_asking 0x0004 major minor rest) v validate
    → (m : Message) × Spells m print × Spells (without_jobs m) validate
answered_alike one w p v now major minor rest print validate a b =
    let h = head_of (bytes_asking 0x0002 major minor rest) in
    let same = alike_replied a.verdict b.verdict (verdicts_alike one major minor rest a.verdict b.verdict a.on_bytes b.on_bytes) h w now in
    ((outcome a.verdict h w now).reply, a.spelled, subst (λ (m : Message). Spells m validate) same b.spelled)
