-- A decision changes each job once, in the order of their numbers.
use Rattle.std.proofs.Common.{◌≡◌, ℕ, ◌<◌, List, [], ◌∷◌, map, refl, sym, subst, Bool, true, false, cond}
use Rattle.std.specs.Prelude.{Option, Some, None, filter, bytes_eq, ◌||◌, ◌&&◌}
use Rattle.std.specs.List.{list_all, AllByRecursion as Each}
use Rattle.queue_types.specs.Event.{Event, Decision, ask, tell, grant, expire, print_job, validate_job, create_job, send_document, cancel_job, cancel_my_jobs, hold_job, release_job, get_job_attributes, get_jobs, get_printer_attributes}
use Rattle.queue_types.specs.Job.{is_live, estimate}
use Rattle.queue_types.specs.Operators.{is_operator}
use Rattle.queue_core.specs.Book.{IsDecisionOn}
use Rattle.queue_core.specs.Grants.{Taken, all_taken, none_taken, take_rows}
use Rattle.queue_core.specs.Machine.{accepted_where, all_canceled, answered, are_there, becomes, cancel_my_jobs_row, cancel_row, canceled, canceled_by, canceled_in, cause, decision, document_sent, entered, expired, grant_row, has_pages, hold_in, is_cancelable, is_sendable, let_print, new_document, new_job, new_refusal, of_own, of_seen, refused, release_in, report_row, send_in, unless_refused}
use Rattle.queue_core.specs.Order.{AreRising}
use Rattle.queue_core.specs.Reports.{is_same_report, reported}
use Rattle.queue_core.specs.Sound.{IsSound}
use Rattle.queue_core.specs.World.{World, cut, has_expired, is_one_of, rows}
use Rattle.queue_types.specs.declared.event.KeptReport.{KeptReport}
use Rattle.queue_types.specs.declared.event.Reply.TheVariants.{Done, Told, NotTold}
use Rattle.queue_types.specs.declared.event.Report.{Report}
use Rattle.queue_types.specs.declared.event.ReportRefusal.TheVariants.{Conflict}
use Rattle.queue_types.specs.declared.event.Scene.{Scene}
use Rattle.queue_types.specs.declared.job.Job.{Job}
use Rattle.queue_types.specs.declared.job.Phase.{Phase}
use Rattle.queue_types.specs.declared.job.Phase.TheVariants.{Waiting, Running, Stopped, Canceled, Aborted, Completed}
use Rattle.queue_types.specs.declared.job.Why.{Why}
use Rattle.queue_types.specs.declared.job.Why.TheVariants.{ByUser}
use Rattle.queue_core.proofs.Many.{rising}
use Rattle.queue_core.proofs.Orders.{rising-filter}

-- the numbers of the jobs that it changes rise
abbrev Rises : Decision → Type 0
Rises d = AreRising d.change.jobs

either : (b : Bool) (d e : Decision) → Rises d → Rises e → Rises (cond b d e)
either true d e first second = first
either false d e first second = second

unless : (o : Option ℕ) (d : Decision) → Rises d → Rises (unless_refused o d)
unless None d it = it
unless (Some code) d it = tt

own : (caller : List ℕ) (row : Job → Decision) (js : List Job) → ((j : Job) → Rises (row j)) → Rises (of_own caller row js)
own caller row [] each = tt
own caller row (j ∷ js) each = either (bytes_eq j.owner caller) (row j) (refused 0x0406) (each j) tt

seen : (operators : List (List ℕ)) (caller : List ℕ) (row : Job → Decision) (js : List Job) → ((j : Job) → Rises (row j)) → Rises (of_seen operators caller row js)
seen operators caller row [] each = tt
seen operators caller row (j ∷ js) each = either (bytes_eq j.owner caller || is_operator operators caller) (row j) (refused 0x0406) (each j) tt

held : (p : Phase) (s : Scene) (j : Job) → Rises (hold_in p s j)
held Waiting s j = (tt, tt)
held Running s j = tt
held Stopped s j = tt
held (Canceled why) s j = tt
held Aborted s j = tt
held Completed s j = tt

released : (p : Phase) (s : Scene) (j : Job) → Rises (release_in p s j)
released Waiting s j = either j.hold (let_print s j) (answered Done) (either (has_pages s.free (estimate j)) (becomes s (record j { hold = false })) (refused 0x0404) (tt, tt) tt) tt
released Running s j = tt
released Stopped s j = tt
released (Canceled why) s j = tt
released Aborted s j = tt
released Completed s j = tt

reported_where : (s : Scene) (r : Report) (o : Option Job) → Rises (accepted_where s r o)
reported_where s r None = tt
reported_where s r (Some j) = (tt, tt)

told : (s : Scene) (now : ℕ) (r : Report) (js : List Job) (o : Option KeptReport) → Rises (report_row s now r js o)
told s now r [] o = tt
told s now r (j ∷ js) None = reported_where s r (reported r now j)
told s now r (j ∷ js) (Some k) = either (is_same_report r k.report) (answered (Told k.state k.total)) (answered (NotTold Conflict)) tt tt

granted : (t : Taken) → Rises (grant_row t)
granted (all_taken new free repeats) = tt
granted (none_taken refusal row) = tt

-- ---- several jobs

above-map : (f : Job → Job) → ((j : Job) → (f j).number ≡ j.number) → (n : ℕ) (js : List Job) → Each (λ k. n < k.number) js → Each (λ k. n < k.number) (map f js)
above-map f same n [] above = tt
above-map f same n (j ∷ js) above = (subst (λ m. n < m) (sym (same j)) above.0, above-map f same n js above.1)

rising-map : (f : Job → Job) → ((j : Job) → (f j).number ≡ j.number) → (js : List Job) → AreRising js → AreRising (map f js)
rising-map f same [] rise = tt
rising-map f same (j ∷ js) rise = (subst (λ n. Each (λ k. n < k.number) (map f js)) (sym (same j)) (above-map f same j.number js rise.0), rising-map f same js rise.1)

same_number : (why : Why) (now : ℕ) (j : Job) (p : Phase) → (canceled_in why p now j).number ≡ j.number
same_number why now j Waiting = refl
same_number why now j Running = refl
same_number why now j Stopped = refl
same_number why now j (Canceled before) = refl
same_number why now j Aborted = refl
same_number why now j Completed = refl

all_rise : (s : Scene) (now : ℕ) (js : List Job) → AreRising js → Rises (all_canceled s now js)
all_rise s now js rise = rising-map (canceled now) (λ j. same_number ByUser now j j.phase) js rise

canceled_all : (w : World) (now : ℕ) (caller : List ℕ) (numbers : Option (List ℕ)) → IsSound w → Rises (cancel_my_jobs_row (cut w now (ask caller (cancel_my_jobs numbers))) now numbers)
canceled_all w now caller None sound =
    let s : Scene = cut w now (ask caller (cancel_my_jobs None)) in
    all_rise s now (filter is_cancelable s.jobs) (rising-filter is_cancelable s.jobs (rising-filter (λ j. bytes_eq j.owner caller && is_live j) (rows w) (rising 1 w.next w.jobs sound.numbers)))
canceled_all w now caller (Some numbers) sound =
    let s : Scene = cut w now (ask caller (cancel_my_jobs (Some numbers))) in
    either (are_there s.jobs numbers) (cond (list_all is_cancelable s.jobs) (all_canceled s now s.jobs) (refused 0x0404)) (refused 0x0406)
    (either (list_all is_cancelable s.jobs) (all_canceled s now s.jobs) (refused 0x0404)
    (all_rise s now s.jobs (rising-filter (λ j. bytes_eq j.owner caller && is_one_of numbers j) (rows w) (rising 1 w.next w.jobs sound.numbers))) tt) tt

-- ---- the table

event_rises : (w : World) (now : ℕ) (e : Event) → IsSound w → Rises (decision (cut w now e) now e)
event_rises w now (ask caller (print_job j format payload)) sound =
    let s : Scene = cut w now (ask caller (print_job j format payload)) in
    unless (new_refusal s) (entered s (new_job s now caller false j payload) (new_document s.next format payload)) (tt, tt)
event_rises w now (ask caller (create_job j)) sound =
    let s : Scene = cut w now (ask caller (create_job j)) in
    unless (new_refusal s) (entered s (new_job s now caller true j []) None) (tt, tt)
event_rises w now (ask caller (validate_job j)) sound = unless (new_refusal (cut w now (ask caller (validate_job j)))) (answered Done) tt
event_rises w now (ask caller (send_document n format payload last)) sound =
    let s : Scene = cut w now (ask caller (send_document n format payload last)) in
    own caller (λ j. send_in s j format payload last) s.jobs (λ j. either (is_sendable j payload) (document_sent s j format payload last) (refused 0x0404) (tt, tt) tt)
event_rises w now (ask caller (cancel_job n)) sound =
    let s : Scene = cut w now (ask caller (cancel_job n)) in
    seen s.settings.operators caller (λ j. cancel_row s now (cause caller j) j) s.jobs (λ j. either (is_cancelable j) (becomes s (canceled_by (cause caller j) now j)) (refused 0x0404) (tt, tt) tt)
event_rises w now (ask caller (cancel_my_jobs numbers)) sound = canceled_all w now caller numbers sound
event_rises w now (ask caller (hold_job n)) sound =
    let s : Scene = cut w now (ask caller (hold_job n)) in
    own caller (λ j. hold_in j.phase s j) s.jobs (λ j. held j.phase s j)
event_rises w now (ask caller (release_job n)) sound =
    let s : Scene = cut w now (ask caller (release_job n)) in
    own caller (λ j. release_in j.phase s j) s.jobs (λ j. released j.phase s j)
event_rises w now (ask caller (get_job_attributes n)) sound =
    let s : Scene = cut w now (ask caller (get_job_attributes n)) in
    seen s.settings.operators caller _ s.jobs (λ j. tt)
event_rises w now (ask caller (get_jobs which limit mine)) sound = tt
event_rises w now (ask caller get_printer_attributes) sound = tt
event_rises w now (tell r) sound = told (cut w now (tell r)) now r (cut w now (tell r)).jobs (cut w now (tell r)).report
event_rises w now (grant new) sound = granted (take_rows new (cut w now (grant new)).known 1 [] [] 0)
event_rises w now expire sound = rising-map (expired now) (λ j. refl) (cut w now expire).jobs (rising-filter (has_expired w.settings.keep now) (rows w) (rising 1 w.next w.jobs sound.numbers))

pub step_rises : (w : World) (d : Decision) → IsSound w → IsDecisionOn w d → AreRising d.change.jobs
step_rises w d sound is = subst Rises (sym is.is) (event_rises w is.now is.event sound)
