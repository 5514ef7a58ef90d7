-- What a decision makes of a sound world: a sound world again, whose jobs moved along the allowed pairs.
use Rattle.std.proofs.Common.{◌≡◌, ℕ, List, [], ◌∷◌, refl, sym, ap, ◌∙◌, subst, true, false, cond}
use Rattle.std.specs.Prelude.{Some, None, Option}
use Rattle.queue_types.specs.Event.{Event, Decision, ask, tell, grant, expire, print_job, validate_job, create_job, send_document, cancel_job, cancel_my_jobs, hold_job, release_job, get_job_attributes, get_jobs, get_printer_attributes}
use Rattle.queue_core.specs.World.{World, AreNew, cut, made_on}
use Rattle.queue_core.specs.Reports.{reported, is_same_report}
use Rattle.queue_core.specs.Machine.{decision, accepted_where, answered, report_row, new_refusal, unless_refused, validate_job_row}
use Rattle.queue_core.specs.Limits.{IsMoment, IsEvent}
use Rattle.queue_core.specs.Sound.{IsSound}
use Rattle.queue_core.specs.Book.{IsDecisionOn}
use Rattle.queue_types.specs.declared.event.Reply.TheVariants.{Done, Told, NotTold}
use Rattle.queue_types.specs.declared.event.ReportRefusal.TheVariants.{Conflict}
use Rattle.queue_types.specs.declared.event.KeptReport.{KeptReport}
use Rattle.queue_types.specs.declared.event.Report.{Report}
use Rattle.queue_types.specs.declared.job.Job.{Job}
use Rattle.queue_types.specs.declared.event.Scene.{Scene}
use Rattle.queue_core.proofs.Fair.{fair_of}
use Rattle.queue_core.proofs.Own.{Keeps, unchanged}
use Rattle.queue_core.proofs.Cancel.{cancel_keeps, hold_keeps, release_keeps, show_keeps}
use Rattle.queue_core.proofs.Many.{cancel_my_keeps}
use Rattle.queue_core.proofs.Send.{send_keeps}
use Rattle.queue_core.proofs.Print.{print_keeps, create_keeps}
use Rattle.queue_core.proofs.Granted.{grants_keep, grants_new}
use Rattle.queue_core.proofs.Reported.{tell_keeps}
use Rattle.queue_core.proofs.Expired.{expired_keeps}
use Rattle.queue_core.proofs.Within.{IsSoundDecision, ask_within, decision_within}

validate_keeps : (w : World) (s : Scene) → IsSound w → Keeps w (made_on (validate_job_row s).change w)
validate_keeps w s sound = elim (new_refusal s) as (λ o. Keeps w (made_on (unless_refused o (answered Done)).change w)) [ None ↦ unchanged w sound | Some code ↦ unchanged w sound ]

pub event_keeps : (w : World) (now : ℕ) (e : Event) → IsSound w → IsMoment now → IsEvent e → Keeps w (made_on (decision (cut w now e) now e).change w)
event_keeps w now (ask caller (print_job j format payload)) sound moment event = print_keeps w now caller j format payload sound moment event.0 event.1.0 event.1.1
event_keeps w now (ask caller (create_job j)) sound moment event = create_keeps w now caller j sound moment event.0 event.1
event_keeps w now (ask caller (send_document n format payload last)) sound moment event = send_keeps w now caller n format payload last sound event.1
event_keeps w now (ask caller (cancel_my_jobs numbers)) sound moment event = cancel_my_keeps w now caller numbers sound moment
event_keeps w now (ask caller (hold_job n)) sound moment event = hold_keeps w now caller n sound
event_keeps w now (ask caller (release_job n)) sound moment event = release_keeps w now caller n sound
event_keeps w now (ask caller (validate_job j)) sound moment event = validate_keeps w (cut w now (ask caller (validate_job j))) sound
event_keeps w now (ask caller (get_jobs which limit mine)) sound moment event = unchanged w sound
event_keeps w now (ask caller get_printer_attributes) sound moment event = unchanged w sound
event_keeps w now (ask caller (cancel_job n)) sound moment event = cancel_keeps w now caller n sound moment
event_keeps w now (ask caller (get_job_attributes n)) sound moment event = show_keeps w w.settings.operators caller _ sound
event_keeps w now (tell r) sound moment event = tell_keeps w now r sound moment event
event_keeps w now (grant new) sound moment event = grants_keep w new sound event.1
event_keeps w now expire sound moment event = expired_keeps w now sound moment

pub step_keeps : (w : World) (d : Decision) → IsSound w → IsDecisionOn w d → Keeps w (made_on d.change w)
step_keeps w d sound is = subst (λ (d : Decision). Keeps w (made_on d.change w)) (sym is.is) (event_keeps w is.now is.event sound is.moment is.limits)

pub step_within : (w : World) (d : Decision) → IsSound w → (is : IsDecisionOn w d) → IsSoundDecision is.event d
step_within w d sound is = subst (IsSoundDecision is.event) (sym is.is) (decision_within (cut w is.now is.event) is.now is.event (fair_of w is.now is.event sound) is.moment is.limits)

no_grants : (s : Scene) (now : ℕ) (r : Report) (o : Option Job) → (accepted_where s r o).change.grants ≡ []
no_grants s now r None = refl
no_grants s now r (Some x) = refl

told_grants : (s : Scene) (now : ℕ) (r : Report) (js : List Job) (o : Option KeptReport) → (report_row s now r js o).change.grants ≡ []
told_grants s now r [] o = refl
told_grants s now r (j ∷ js) None = no_grants s now r (reported r now j)
told_grants s now r (j ∷ js) (Some k) = elim (is_same_report r k.report) as (λ b. (cond b (answered (Told k.state k.total)) (answered (NotTold Conflict))).change.grants ≡ []) [ true ↦ refl | false ↦ refl ]

event_new : (w : World) (now : ℕ) (e : Event) → IsSound w → IsMoment now → IsEvent e → AreNew w.grants (decision (cut w now e) now e).change.grants
event_new w now (ask caller call) sound moment event = subst (AreNew w.grants) (sym (ask_within (cut w now (ask caller call)) now caller call (fair_of w now (ask caller call) sound) moment event).grants) tt
event_new w now (tell r) sound moment event = subst (AreNew w.grants) (sym (told_grants (cut w now (tell r)) now r (cut w now (tell r)).jobs (cut w now (tell r)).report)) tt
event_new w now (grant new) sound moment event = grants_new w new sound event.1
event_new w now expire sound moment event = tt

pub step_new : (w : World) (d : Decision) → IsSound w → IsDecisionOn w d → AreNew w.grants d.change.grants
step_new w d sound is = subst (λ (d : Decision). AreNew w.grants d.change.grants) (sym is.is) (event_new w is.now is.event sound is.moment is.limits)

-- a decision on the scene that was cut from a world is the machine's on it
pub decided_on : (w : World) (s : Scene) (now : ℕ) (e : Event) (d : Decision) → IsMoment now → IsEvent e → s ≡ cut w now e → d ≡ decision s now e → IsDecisionOn w d
decided_on w s now e d moment within same is = record { now = now; event = e; moment = moment; limits = within; is = is ∙ ap (λ (t : Scene). decision t now e) same }
