-- What the machine's decision on a sound world gives the writer of its change.
use Rattle.std.proofs.Common.{◌≡◌, ℕ, List, [], ◌∷◌, Bool, true, false, if◌then◌else◌, Option, Some, None, IfSome, refl, sym, ap, subst, ◌∙◌, ◌||◌, bytes_eq}
use Rattle.std.specs.FinMap.{get}
use Rattle.queue_types.specs.declared.event.KeptReport.{KeptReport}
use Rattle.queue_types.specs.declared.event.Report.{Report}
use Rattle.queue_types.specs.declared.event.Scene.{Scene}
use Rattle.queue_types.specs.declared.job.Job.{Job}
use Rattle.queue_types.specs.declared.job.Phase.{Phase}
use Rattle.queue_types.specs.declared.job.Phase.TheVariants.{Waiting}
use Rattle.std.specs.List.{list_all}
use Rattle.queue_types.specs.Operators.{is_operator}
use Rattle.queue_core.specs.Book.{IsDecisionOn}
use Rattle.queue_types.specs.Event.{Call, Decision, Event, ask, tell, grant, expire, print_job, validate_job, create_job, send_document, cancel_job, cancel_my_jobs, hold_job, release_job, get_job_attributes}
use Rattle.queue_core.specs.Grants.{Taken, all_taken, none_taken, take_rows}
use Rattle.queue_core.specs.Machine.{accepted_where, call_row, decision, grant_row, cause, hold_in, new_refusal, of_own, of_seen, release_in, report_row, unless_refused, cancel_row, cancel_my_jobs_row, send_in, let_print, all_canceled, are_there, refused, answered, is_cancelable}
use Rattle.queue_core.specs.Reports.{reported}
use Rattle.queue_core.specs.World.{World, cut}

-- ---- a caller's call keeps no report

abbrev IsSilent : Decision → Type 0
IsSilent d = d.change.report ≡ None

silent_if : (b : Bool) (x y : Decision) → IsSilent x → IsSilent y → IsSilent (if b then x else y)
silent_if true x y p q = p
silent_if false x y p q = q

silent_unless : (o : Option ℕ) (d : Decision) → IsSilent d → IsSilent (unless_refused o d)
silent_unless None d p = p
silent_unless (Some code) d p = refl

silent_own : (caller : List ℕ) (row : Job → Decision) (js : List Job) → ((j : Job) → IsSilent (row j)) → IsSilent (of_own caller row js)
silent_own caller row [] p = refl
silent_own caller row (j ∷ js) p = silent_if (bytes_eq j.owner caller) (row j) (refused 0x0406) (p j) refl

silent_seen : (operators : List (List ℕ)) (caller : List ℕ) (row : Job → Decision) (js : List Job) → ((j : Job) → IsSilent (row j)) → IsSilent (of_seen operators caller row js)
silent_seen operators caller row [] p = refl
silent_seen operators caller row (j ∷ js) p = silent_if (bytes_eq j.owner caller || is_operator operators caller) (row j) (refused 0x0406) (p j) refl

silent_hold : (p : Phase) (s : Scene) (j : Job) → IsSilent (hold_in p s j)
silent_hold Waiting s j = refl
silent_hold _ s j = refl

silent_release : (p : Phase) (s : Scene) (j : Job) → IsSilent (release_in p s j)
silent_release Waiting s j = silent_if j.hold (let_print s j) _ (silent_if _ _ _ refl refl) refl
silent_release _ s j = refl

silent_my_jobs : (s : Scene) (now : ℕ) (numbers : Option (List ℕ)) → IsSilent (cancel_my_jobs_row s now numbers)
silent_my_jobs s now (Some numbers) =
    silent_if (are_there s.jobs numbers) (if list_all is_cancelable s.jobs then all_canceled s now s.jobs else refused 0x0404) (refused 0x0406)
    (silent_if (list_all is_cancelable s.jobs) (all_canceled s now s.jobs) (refused 0x0404) refl refl) refl
silent_my_jobs s now None = refl

silent_call : (s : Scene) (now : ℕ) (caller : List ℕ) (call : Call) → IsSilent (call_row s now caller call)
silent_call s now caller (print_job j format payload) = silent_unless (new_refusal s) _ refl
silent_call s now caller (validate_job j) = silent_unless (new_refusal s) _ refl
silent_call s now caller (create_job j) = silent_unless (new_refusal s) _ refl
silent_call s now caller (send_document n format payload last) = silent_own caller (λ j. send_in s j format payload last) s.jobs (λ j. silent_if _ _ _ refl refl)
silent_call s now caller (cancel_job n) = silent_seen s.settings.operators caller (λ j. cancel_row s now (cause caller j) j) s.jobs (λ j. silent_if _ _ _ refl refl)
silent_call s now caller (cancel_my_jobs numbers) = silent_my_jobs s now numbers
silent_call s now caller (hold_job n) = silent_own caller (λ j. hold_in j.phase s j) s.jobs (λ j. silent_hold j.phase s j)
silent_call s now caller (release_job n) = silent_own caller (λ j. release_in j.phase s j) s.jobs (λ j. silent_release j.phase s j)
silent_call s now caller (get_job_attributes n) = silent_seen s.settings.operators caller (λ j. answered _) s.jobs (λ j. refl)
silent_call s now caller _ = refl

silent_grant : (t : Taken) → IsSilent (grant_row t)
silent_grant (all_taken new free repeats) = refl
silent_grant (none_taken fault row) = refl

-- ---- what is kept of a report was not kept before

Keeps : Report → Option KeptReport → Option KeptReport → Type 0
Keeps r kept o = IfSome o (λ k. (k.report ≡ r) × (kept ≡ None))

keeps_where : (s : Scene) (r : Report) (o : Option Job) → Keeps r None (accepted_where s r o).change.report
unfolding Keeps
keeps_where s r None = tt
keeps_where s r (Some j) = (refl, refl)

keeps_none : (r : Report) (kept : Option KeptReport) (o : Option KeptReport) → o ≡ None → Keeps r kept o
unfolding Keeps
keeps_none r kept o none = subst (λ (o : Option KeptReport). IfSome o (λ k. (k.report ≡ r) × (kept ≡ None))) (sym none) tt

keeps : (s : Scene) (now : ℕ) (r : Report) (js : List Job) (kept : Option KeptReport) → Keeps r kept (report_row s now r js kept).change.report
keeps s now r [] kept = keeps_none r kept _ refl
keeps s now r (j ∷ js) None = keeps_where s r (reported r now j)
keeps s now r (j ∷ js) (Some k) = keeps_none r (Some k) _ (silent_if _ _ _ refl refl)

abbrev IsFresh : World → Option KeptReport → Type 0
IsFresh w o = IfSome o (λ k. get w.reports (k.report.job, k.report.seq) ≡ None)

fresh_of : (w : World) (r : Report) (o : Option KeptReport) → Keeps r (get w.reports (r.job, r.seq)) o → IsFresh w o
unfolding Keeps
fresh_of w r None h = tt
fresh_of w r (Some k) h = ap (λ (x : Report). get w.reports (x.job, x.seq)) h.0 ∙ h.1

fresh_none : (w : World) (o : Option KeptReport) → o ≡ None → IsFresh w o
fresh_none w o none = subst (IsFresh w) (sym none) tt

fresh : (w : World) (now : ℕ) (e : Event) → IsFresh w (decision (cut w now e) now e).change.report
fresh w now (ask caller call) = fresh_none w _ (silent_call (cut w now (ask caller call)) now caller call)
fresh w now (tell r) = fresh_of w r _ (keeps (cut w now (tell r)) now r (cut w now (tell r)).jobs (get w.reports (r.job, r.seq)))
fresh w now (grant rows) = fresh_none w _ (silent_grant (take_rows rows (cut w now (grant rows)).known 1 [] [] 0))
fresh w now expire = fresh_none w _ refl

-- no report is kept yet of the job and the sequence number of the one that a decision keeps
pub new_report : (w : World) (d : Decision) → IsDecisionOn w d → IfSome d.change.report (λ k. get w.reports (k.report.job, k.report.seq) ≡ None)
new_report w d it = subst (λ (x : Decision). IsFresh w x.change.report) (sym it.is) (fresh w it.now it.event)
