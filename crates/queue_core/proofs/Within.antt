-- What the machine decides on a fair scene is within the limits.
use Rattle.std.proofs.Common.{◌≡◌, ℕ, zero, suc, ◌+◌, ◌≤◌, List, [], ◌∷◌, ◌++◌, length, length-append, map, refl, ap, arith, subst, eq-eqb, Bool, true, false, cond}
use Rattle.std.specs.List.{AllByRecursion as Each}
use Rattle.std.specs.Prelude.{All, IsSome, IfSome, is_some, filter, Option, Some, None}
use Rattle.queue_types.specs.Event.{Event, Call, NewJob, NewDocument, Decision, ask, tell, grant, expire}
use Rattle.queue_core.specs.World.{job_at}
use Rattle.queue_core.specs.Reports.{reported, is_same_report}
use Rattle.queue_core.specs.Grants.{repeated, refused_row, new_row, row_of, Taken, all_taken, none_taken, free_after, add_row, take_rows}
use Rattle.queue_core.specs.Machine.{decision, call_row, refused, becomes, answered, canceled, canceled_by, cause, is_cancelable, all_canceled, entered, new_job, new_document, new_refusal, sent, accepted, accepted_where, report_row, grant_row, expired, expire_row}
use Rattle.queue_core.specs.Limits.{IsMoment, IsEvent, IsCall, IsOwner, IsNewJob, IsSoundJob, IsFair, IsReport, IsReplyTo, IsSoundReply, IsSoundChange}
use Rattle.queue_types.specs.declared.document.Format.{Format}
use Rattle.queue_types.specs.declared.job.Job.{Job}
use Rattle.queue_types.specs.declared.job.Why.TheVariants.{ByUser}
use Rattle.queue_types.specs.declared.event.FreeRow.{FreeRow}
use Rattle.queue_types.specs.declared.event.GrantRow.{GrantRow}
use Rattle.queue_types.specs.declared.event.KeptReport.{KeptReport}
use Rattle.queue_types.specs.declared.event.KnownGrant.{KnownGrant}
use Rattle.queue_types.specs.declared.event.Reply.{Reply}
use Rattle.queue_types.specs.declared.event.Reply.TheVariants.{Refused, Jobs, Done, Told, NotTold, NotAdded}
use Rattle.queue_types.specs.declared.event.Report.{Report}
use Rattle.queue_types.specs.declared.event.ReportRefusal.TheVariants.{NoJob, State, Conflict}
use Rattle.queue_types.specs.declared.event.Scene.{Scene}
use Rattle.queue_core.proofs.Cancel.{asks_to_stop, held, held_documents}
use Rattle.queue_core.proofs.Many.{keeps_documents, by_user, passed, each_both}
use Rattle.queue_core.proofs.Forms.{IsOwn, HasForm, not_possible, not_found, out_of_numbers, done, lists, shows, shows_printer, prints, creates, sends, cancels, cancels_all, holds, releases, call_form}
use Rattle.queue_core.proofs.Ordered.{all_of, each_of, each-filter}
use Rattle.queue_core.proofs.Print.{new_job_sound, not_refused}
use Rattle.queue_core.proofs.Reported.{reported_is}
use Rattle.queue_core.proofs.ExpiredJobs.{expired_sound}
use Rattle.queue_core.proofs.Send.{sent_sound}

-- ---- the forms of a decision

-- on what a caller asks
pub record IsAskDecision (d : Decision) : Type 0 where
  pub reply : IsSoundReply d.reply
  pub change : IsSoundChange d.change
  pub grants : d.change.grants ≡ []

one : (j : Job) → IsSoundJob j → All IsSoundJob (j ∷ [])
one j sound zero d h = sound
one j sound (suc k) d h = absurd (omega arith)

answering : (r : Reply) → IsSoundReply r → IsAskDecision (answered r)
answering r sound = record { reply = sound; change = record { jobs = all_of IsSoundJob [] tt; document = tt }; grants = refl }

refusing : (code : ℕ) → IsAskDecision (refused code)
refusing code = answering (Refused code) tt

becoming : (s : Scene) (x : Job) → IsSoundJob x → IsAskDecision (becomes s x)
becoming s x sound = record { reply = tt; change = record { jobs = one x sound; document = tt }; grants = refl }

-- a new document is of the job that comes with it
of_its_job : (x : Job) (format : Format) (payload : List ℕ) → IfSome (new_document x.number format payload) (λ k. IsSome (job_at k.job (x ∷ [])))
of_its_job x format [] = tt
of_its_job x format (b ∷ bytes) = ap (λ t. is_some (cond t (Some x) None)) (eq-eqb x.number x.number refl)

-- ---- what a caller asks

each_canceled : (now : ℕ) (js : List Job) → IsMoment now → Each (λ j. IsSoundJob j × (is_cancelable j ≡ true)) js → Each IsSoundJob (map (canceled now) js)
each_canceled now [] moment each = tt
each_canceled now (j ∷ js) moment each = ((keeps_documents ByUser now j j.phase by_user moment refl each.0.1).sound each.0.0, each_canceled now js moment each.1)

-- those that can be
canceling_able : (s : Scene) (now : ℕ) → IsFair s → IsMoment now → IsAskDecision (all_canceled s now (filter is_cancelable s.jobs))
canceling_able s now fair moment = record {
  reply = tt;
  change = record {
    jobs = all_of IsSoundJob _ (each_canceled now (filter is_cancelable s.jobs) moment (each_both IsSoundJob (λ j. is_cancelable j ≡ true) (filter is_cancelable s.jobs) (each-filter IsSoundJob is_cancelable s.jobs (each_of IsSoundJob s.jobs fair.jobs)) (passed is_cancelable s.jobs)));
    document = tt;
  };
  grants = refl;
}

module _ (s : Scene) (now : ℕ) (caller : List ℕ) (fair : IsFair s) (moment : IsMoment now) (owner : IsOwner caller) where
  entering : (incoming : Bool) (new : NewJob) (payload : List ℕ) (document : Option NewDocument) → new_refusal s ≡ None → IsNewJob new → length payload ≤ 16777216
      → IfSome document (λ k. IsSome (job_at k.job (new_job s now caller incoming new payload ∷ []))) → IsAskDecision (entered s (new_job s now caller incoming new payload) document)
  entering incoming new payload document room limits fits its =
      let x : Job = new_job s now caller incoming new payload in
      let job = new_job_sound s now caller incoming new payload fair.settings fair.next (not_refused s room).1 moment owner limits fits in
      record { reply = one x job; change = record { jobs = one x job; document = its }; grants = refl }

  first_sound : (j : Job) (rest : List Job) → s.jobs ≡ j ∷ rest → IsSoundJob j
  first_sound j rest first = subst (All IsSoundJob) first fair.jobs 0 j (omega arith)

  own_sound : (j : Job) → IsOwn s caller j → IsSoundJob j
  own_sound j own = first_sound j own.rest own.first

  form_within : (call : Call) (d : Decision) → HasForm s now caller call d → IsCall call → IsAskDecision d
  form_within _ _ (not_possible call) limits = refusing 0x0404
  form_within _ _ (not_found call) limits = refusing 0x0406
  form_within _ _ (out_of_numbers call) limits = refusing 0x0506
  form_within _ _ (done call) limits = answering Done tt
  form_within _ _ (lists which limit mine) limits = answering (Jobs s.jobs) fair.jobs
  form_within _ _ (shows n j seen) limits = answering (Jobs (j ∷ [])) (one j (first_sound j seen.rest seen.first))
  form_within _ _ shows_printer limits = answering _ fair.queued
  form_within _ _ (prints new format payload room) limits = entering false new payload (new_document s.next format payload) room limits.0 limits.1 (of_its_job (new_job s now caller false new payload) format payload)
  form_within _ _ (creates new room) limits = entering true new [] None room limits (omega arith) tt
  form_within _ _ (sends n format payload last j own can) limits =
      let job = sent_sound j payload last (own_sound j own) can limits in
      record { reply = one (sent j payload last) job; change = record { jobs = one (sent j payload last) job; document = of_its_job (sent j payload last) format payload }; grants = refl }
  form_within _ _ (cancels n j seen can) limits =
      becoming s (canceled_by (cause caller j) now j) ((keeps_documents (cause caller j) now j j.phase (asks_to_stop caller j) moment refl can).sound (first_sound j seen.rest seen.first))
  form_within _ _ (cancels_all numbers) limits = canceling_able s now fair moment
  form_within _ _ (holds n j own is) limits = becoming s (held true j) ((held_documents true j is).sound (own_sound j own))
  form_within _ _ (releases n j own is has) limits = becoming s (held false j) ((held_documents false j is).sound (own_sound j own))

pub ask_within : (s : Scene) (now : ℕ) (caller : List ℕ) (call : Call) → IsFair s → IsMoment now → IsOwner caller × IsCall call → IsAskDecision (call_row s now caller call)
ask_within s now caller call fair moment event = form_within s now caller fair moment event.0 call (call_row s now caller call) (call_form s now caller call) event.1

-- a decision on that event within the limits
pub record IsSoundDecision (e : Event) (d : Decision) : Type 0 where
  pub reply : IsReplyTo e d.reply
  pub change : IsSoundChange d.change

-- ---- reports

told : (e : Event) (r : Reply) → IsReplyTo e r → IsSoundDecision e (answered r)
told e r sound = record { reply = sound; change = record { jobs = all_of IsSoundJob [] tt; document = tt } }

accepting : (s : Scene) (r : Report) (x : Job) → IsSoundJob x → IsSoundDecision (tell r) (accepted s r x)
accepting s r x sound = record { reply = sound.count; change = record { jobs = one x sound; document = tt } }

accepting_where : (s : Scene) (r : Report) (o : Option Job) → IfSome o IsSoundJob → IsSoundDecision (tell r) (accepted_where s r o)
accepting_where s r None sound = told (tell r) (NotTold State) tt
accepting_where s r (Some x) sound = accepting s r x sound

if_taken : (o : Option Job) → ((x : Job) → o ≡ Some x → IsSoundJob x) → IfSome o IsSoundJob
if_taken None each = tt
if_taken (Some x) each = each x refl

taken_sound : (j : Job) (r : Report) (now : ℕ) → IsSoundJob j → IsMoment now → IsReport r → IfSome (reported r now j) IsSoundJob
taken_sound j r now sound moment report = if_taken (reported r now j) (λ x e. (reported_is r now j x sound moment report e).sound)

telling : (s : Scene) (now : ℕ) (r : Report) → IsMoment now → IsReport r → (js : List Job) → All IsSoundJob js → (o : Option KeptReport) → IfSome o (λ k. k.total ≤ 100000000) → IsSoundDecision (tell r) (report_row s now r js o)
telling s now r moment report [] all o kept = told (tell r) (NotTold NoJob) tt
telling s now r moment report (j ∷ js) all None kept = accepting_where s r (reported r now j) (taken_sound j r now (all 0 j (omega arith)) moment report)
telling s now r moment report (j ∷ js) all (Some k) kept = elim (is_same_report r k.report) as (λ b. IsSoundDecision (tell r) (cond b (answered (Told k.state k.total)) (answered (NotTold Conflict)))) [
  | true ↦ told (tell r) (Told k.state k.total) kept
  | false ↦ told (tell r) (NotTold Conflict) tt
]

-- ---- account files

abbrev IsFew : Taken → ℕ → Type 0
IsFew (all_taken rows free repeats) n = length rows + repeats ≤ n
IsFew (none_taken refusal row) n = (1 ≤ row) × (row ≤ n)

few_rows : (rows : List GrantRow) (known : List KnownGrant) (n : ℕ) (new : List GrantRow) (free : List FreeRow) (repeats m : ℕ) → 1 ≤ n → length new + repeats + 1 ≤ n → n + length rows ≤ m + 1 → IsFew (take_rows rows known n new free repeats) m
few_rows [] known n new free repeats m first few fits = omega arith
few_rows (r ∷ rows) [] n new free repeats m first few fits = omega arith
few_rows (r ∷ rows) (k ∷ known) n new free repeats m first few fits =
    elim (row_of r k new) as (λ row. IsFew (add_row row r k n (take_rows rows known (n + 1)) new free repeats) m) [
      | repeated ↦ few_rows rows known (n + 1) new free (repeats + 1) m (omega arith) (omega arith) (omega arith)
      | refused_row fault ↦ (first, omega arith)
      | new_row ↦ few_rows rows known (n + 1) (new ++ r ∷ []) (free ++ free_after r k new ∷ []) repeats m (omega arith) (omega (arith, length-append new (r ∷ []))) (omega arith)
    ]

granting : (rows : List GrantRow) (t : Taken) → IsFew t 16777216 → IsSoundDecision (grant rows) (grant_row t)
granting rows (all_taken new free repeats) few = record { reply = few; change = record { jobs = all_of IsSoundJob [] tt; document = tt } }
granting rows (none_taken refusal row) few = told (grant rows) (NotAdded refusal row) few

-- ---- held jobs that expire

each_expired : (now : ℕ) (js : List Job) → IsMoment now → Each IsSoundJob js → Each IsSoundJob (map (expired now) js)
each_expired now [] moment each = tt
each_expired now (j ∷ js) moment each = (expired_sound now j moment each.0, each_expired now js moment each.1)

expiring : (s : Scene) (now : ℕ) → IsFair s → IsMoment now → IsSoundDecision expire (expire_row s now)
expiring s now fair moment = record {
  reply = fair.few;
  change = record { jobs = all_of IsSoundJob _ (each_expired now s.jobs moment (each_of IsSoundJob s.jobs fair.jobs)); document = tt };
}

-- ---- every event

pub decision_within : (s : Scene) (now : ℕ) (e : Event) → IsFair s → IsMoment now → IsEvent e → IsSoundDecision e (decision s now e)
decision_within s now (ask caller call) fair moment event = let within = ask_within s now caller call fair moment event in record { reply = within.reply; change = within.change }
decision_within s now (tell r) fair moment event = telling s now r moment event s.jobs fair.jobs s.report fair.report
decision_within s now (grant rows) fair moment event = granting rows (take_rows rows s.known 1 [] [] 0) (few_rows rows s.known 1 [] [] 0 16777216 (omega arith) (omega arith) (let few = event.0 in omega arith))
decision_within s now expire fair moment event = expiring s now fair moment
