-- What becomes of a report, and what it changes.
use Rattle.std.proofs.Common.{◌≡◌, ℕ, List, [], ◌∷◌, map, refl, ap, sym, ◌∙◌, subst, Bool, true, false, cond}
use Rattle.std.specs.Prelude.{Option, Some, None, nat_eq, bytes_eq, not, fold, is_some, max, ◌&&◌, ◌||◌}
use Rattle.std.specs.FinMap.{get, get-insert}
use Rattle.std.proofs.lemmas.Cmp.{nat_list_eq_equiv}
use Rattle.std.proofs.lemmas.Option.{same_Some, none-some}
use Rattle.queue_types.specs.Event.{Decision, tell}
use Rattle.queue_types.specs.Job.{job_state}
use Rattle.queue_core.specs.World.{World, Entry, rows, cut, made_on, with_row, put_free, job_at, numbered, owner_row}
use Rattle.queue_core.specs.Reports.{counted, ended_as, why_halted, moved_by, reported, is_same_report}
use Rattle.queue_core.specs.Machine.{decision, step, answered, accepted, accepted_where, report_row, credited}
use Rattle.queue_types.specs.declared.event.Kind.{Kind}
use Rattle.queue_types.specs.declared.event.Kind.TheVariants.{Start, Stop, Resume, Count, Done, Fail, Halt}
use Rattle.queue_types.specs.declared.event.KeptReport.{KeptReport}
use Rattle.queue_types.specs.declared.event.Report.{Report}
use Rattle.queue_types.specs.declared.event.ReportRefusal.{ReportRefusal}
use Rattle.queue_types.specs.declared.event.ReportRefusal.TheVariants.{NoJob, State, Conflict}
use Rattle.queue_types.specs.declared.event.Reply.TheVariants.{Told, NotTold}
use Rattle.queue_types.specs.declared.event.Scene.{Scene}
use Rattle.queue_types.specs.declared.job.Job.{Job}
use Rattle.queue_types.specs.declared.job.Phase.{Phase}
use Rattle.queue_types.specs.declared.job.Phase.TheVariants.{Waiting, Running, Stopped, Canceled, Aborted, Completed}
use Rattle.queue_types.specs.declared.states.JobState.{JobState}
use Rattle.queue_laws.specs.Jobs.{jobs_but}
use Rattle.queue_laws.specs.Reporting.{IsSameJob, documents_in}
use Rattle.queue_laws.proofs.Base.{at, fresh, equal, itself, first_named}
use Rattle.queue_core.proofs.Maps.{report_total, own_report_key}
use Rattle.queue_laws.proofs.Keys.{report_test}
use Rattle.queue_laws.proofs.Funds.{others_free}

-- ---- the job that comes of it

abbrev pub IsMoved : ℕ → Job → Job → Type 0
IsMoved c j x = IsSameJob x j × (x.count ≡ max j.count c)

moved : (c : ℕ) (j x y : Job) → Some y ≡ Some x → IsMoved c j y → IsMoved c j x
moved c j x y e is = subst (IsMoved c j) (same_Some y x e) is

moved_unless : (b : Bool) (c : ℕ) (j x y : Job) → cond b None (Some y) ≡ Some x → IsMoved c j y → IsMoved c j x
moved_unless true c j x y e is = absurd (cc)
moved_unless false c j x y e is = moved c j x y e is

moved_where : (b : Bool) (c : ℕ) (j x y : Job) → cond b (Some y) None ≡ Some x → IsMoved c j y → IsMoved c j x
moved_where true c j x y e is = moved c j x y e is
moved_where false c j x y e is = absurd (cc)

moved_is : (c now : ℕ) (j x : Job) (k : Kind) (p : Phase) → moved_by k p now (counted c j) ≡ Some x → IsMoved c j x
moved_is c now j x Start Waiting e = moved_unless (j.hold || j.incoming) c j x (record (counted c j) { phase = Running; begun = Some now }) e (refl, refl)
moved_is c now j x Stop Running e = moved c j x (record (counted c j) { phase = Stopped }) e (refl, refl)
moved_is c now j x Resume Stopped e = moved c j x (record (counted c j) { phase = Running }) e (refl, refl)
moved_is c now j x Count p e = moved_where (is_some j.begun) c j x (counted c j) e (refl, refl)
moved_is c now j x Done Running e = moved c j x (ended_as Completed now (counted c j)) e (refl, refl)
moved_is c now j x Fail Running e = moved c j x (ended_as Aborted now (counted c j)) e (refl, refl)
moved_is c now j x Fail Stopped e = moved c j x (ended_as Aborted now (counted c j)) e (refl, refl)
moved_is c now j x Halt Running e = moved c j x (ended_as (Canceled (why_halted j.stopping)) now (counted c j)) e (refl, refl)
moved_is c now j x Halt Stopped e = moved c j x (ended_as (Canceled (why_halted j.stopping)) now (counted c j)) e (refl, refl)
moved_is c now j x _ _ e = absurd (cc)

-- ---- what becomes of the report

-- it is taken of this job, which becomes that one
pub record IsAccepted (w : World) (now : ℕ) (r : Report) (d : Decision) : Type 0 where
  pub before : Job
  pub rest : List Job
  pub jobs : numbered r.job (rows w) ≡ before ∷ rest
  pub after : Job
  pub came : reported r now before ≡ Some after
  pub moved : IsMoved r.count before after
  pub first : get w.reports (r.job, r.seq) ≡ None
  pub is : d ≡ accepted (cut w now (tell r)) r after

pub data Telling (w : World) (now : ℕ) (r : Report) (d : Decision) : Type 0 where
  declined : (cause : ReportRefusal) → d ≡ answered (NotTold cause) → Telling w now r d
  known : (k : KeptReport) → get w.reports (r.job, r.seq) ≡ Some k → is_same_report r k.report ≡ true → d ≡ answered (Told k.state k.total) → Telling w now r d
  taken : IsAccepted w now r d → Telling w now r d

module _ (w : World) (now : ℕ) (r : Report) where
  abbrev scene : Scene
  scene = cut w now (tell r)

  rows_tell : (js : List Job) → numbered r.job (rows w) ≡ js → (o : Option KeptReport) → get w.reports (r.job, r.seq) ≡ o → Telling w now r (report_row scene now r js o)
  rows_tell [] e o kept = declined NoJob refl
  rows_tell (j ∷ rest) e (Some k) kept = elim (is_same_report r k.report) as (λ b. is_same_report r k.report ≡ b → Telling w now r (cond b (answered (Told k.state k.total)) (answered (NotTold Conflict)))) [
    | true ↦ λ same. known k kept same refl
    | false ↦ λ same. declined Conflict refl
  ] refl
  rows_tell (j ∷ rest) e None kept = elim (reported r now j) as (λ o. reported r now j ≡ o → Telling w now r (accepted_where scene r o)) [
    | None ↦ λ is. declined State refl
    | Some x ↦ λ is. taken (record { before = j; rest = rest; jobs = e; after = x; came = is; moved = moved_is r.count now j x r.kind j.phase is; first = kept; is = refl })
  ] refl

  pub telling : Telling w now r (decision (cut w now (tell r)) now (tell r))
  telling = rows_tell (numbered r.job (rows w)) refl (get w.reports (r.job, r.seq)) refl

-- ---- what it changes

pub told_parts : (s : JobState) (c : ℕ) (m : JobState) (n : ℕ) → Told m n ≡ Told s c → (m ≡ s) × (n ≡ c)
told_parts s c m n e = (cc, cc)

number_of : (x j : Job) → IsSameJob x j → x.number ≡ j.number
number_of x j same = ap (λ (k : Job). k.number) same

pub but_row : (n : ℕ) (x : Job) (es : List Entry) → x.number ≡ n → jobs_but n (with_row es x) ≡ jobs_but n es
but_row n x [] is = ap (λ t. cond (not t) (fresh x ∷ []) []) (ap (λ m. nat_eq m n) is ∙ itself n)
but_row n x (e ∷ es) is =
    elim (nat_eq e.row.number x.number) as (λ t. nat_eq e.row.number x.number ≡ t → jobs_but n (cond t (record e { row = x } ∷ es) (e ∷ with_row es x)) ≡ jobs_but n (e ∷ es)) [
      | true ↦ λ here.
          let new : nat_eq x.number n ≡ true = ap (λ m. nat_eq m n) is ∙ itself n in
          let old : nat_eq e.row.number n ≡ true = ap (λ m. nat_eq m n) (equal e.row.number x.number here) ∙ new in
          ap (λ t. cond (not t) (record e { row = x } ∷ jobs_but n es) (jobs_but n es)) new
          ∙ sym (ap (λ t. cond (not t) (e ∷ jobs_but n es) (jobs_but n es)) old)
      | false ↦ λ here. ap (λ t. cond (not (nat_eq e.row.number n)) (e ∷ t) t) (but_row n x es is)
    ] refl

documents_row : (x j : Job) (es : List Entry) → at x.number es ≡ Some j → documents_in (with_row es x) ≡ documents_in es
documents_row x j [] there = absurd (cc)
documents_row x j (e ∷ es) there =
    elim (nat_eq e.row.number x.number) as (λ t. cond t (Some e.row) (at x.number es) ≡ Some j → documents_in (cond t (record e { row = x } ∷ es) (e ∷ with_row es x)) ≡ e.documents ∷ documents_in es) [
      | true ↦ λ there. refl
      | false ↦ λ there. ap (λ t. e.documents ∷ t) (documents_row x j es there)
    ] there

-- the row stands at its number
row_at : (x : Job) (es : List Entry) → at x.number (with_row es x) ≡ Some x
row_at x [] = ap (λ t. cond t (Some x) None) (itself x.number)
row_at x (e ∷ es) =
    elim (nat_eq e.row.number x.number) as (λ t. nat_eq e.row.number x.number ≡ t → at x.number (cond t (record e { row = x } ∷ es) (e ∷ with_row es x)) ≡ Some x) [
      | true ↦ λ here. ap (λ t. cond t (Some x) (at x.number es)) (itself x.number)
      | false ↦ λ here. ap (λ t. cond t (Some e.row) (at x.number (with_row es x))) here ∙ row_at x es
    ] refl

module _ (w : World) (now : ℕ) (r : Report) where
  abbrev by : Decision → World
  by d = made_on d.change w

  abbrev new : World
  new = (step w now (tell r)).world

  -- what an accepted report leaves, every report leaves
  leaves : {X : Type 0} (f : World → X) → ((d : Decision) (a : IsAccepted w now r d) → f (by (accepted (cut w now (tell r)) r a.after)) ≡ f w) → f new ≡ f w
  leaves f each = elim (telling w now r) as (λ _. f new ≡ f w) [
    | declined cause e ↦ ap (λ d. f (by d)) e
    | known k kept same e ↦ ap (λ d. f (by d)) e
    | taken a ↦ ap (λ d. f (by d)) a.is ∙ each (decision (cut w now (tell r)) now (tell r)) a
  ]

  module _ (d : Decision) (a : IsAccepted w now r d) where
    pub named_before : (job_at r.job (rows w) ≡ Some a.before) × (a.before.number ≡ r.job)
    named_before = first_named r.job (rows w) a.before a.rest a.jobs

    after_number : a.after.number ≡ r.job
    after_number = number_of a.after a.before a.moved.0 ∙ named_before.1

    after_there : at a.after.number w.jobs ≡ Some a.before
    after_there = ap (λ n. at n w.jobs) after_number ∙ named_before.0

    pub after_at : at r.job (with_row w.jobs a.after) ≡ Some a.after
    after_at = ap (λ n. at n (with_row w.jobs a.after)) (sym after_number) ∙ row_at a.after w.jobs

    pub is_before : (j : Job) → at r.job w.jobs ≡ Some j → a.before ≡ j
    is_before j there = same_Some a.before j (sym named_before.0 ∙ there)

    pub is_after : (k : Job) → at r.job (by d).jobs ≡ Some k → a.after ≡ k
    is_after k there = same_Some a.after k (sym after_at ∙ sym (ap (λ d. at r.job (by d).jobs) a.is) ∙ there)

  pub grants_left : new.grants ≡ w.grants
  grants_left = leaves (λ v. v.grants) (λ d a. refl)

  pub next_left : new.next ≡ w.next
  next_left = leaves (λ v. v.next) (λ d a. refl)

  pub other_jobs_left : jobs_but r.job new.jobs ≡ jobs_but r.job w.jobs
  other_jobs_left = leaves (λ v. jobs_but r.job v.jobs) (λ d a. but_row r.job a.after w.jobs (after_number d a))

  pub documents_left : documents_in new.jobs ≡ documents_in w.jobs
  documents_left = leaves (λ v. documents_in v.jobs) (λ d a. documents_row a.after a.before w.jobs (after_there d a))

  itself_same : (j k : Job) → Some j ≡ Some k → IsSameJob k j
  itself_same j k e = subst (λ k. IsSameJob k j) (same_Some j k e) refl

  pub job_left : (j k : Job) → at r.job w.jobs ≡ Some j → at r.job new.jobs ≡ Some k → IsSameJob k j
  job_left j k old then = elim (telling w now r) as (λ _. IsSameJob k j) [
    | declined cause e ↦ itself_same j k (sym old ∙ sym (ap (λ d. at r.job (by d).jobs) e) ∙ then)
    | known l kept same e ↦ itself_same j k (sym old ∙ sym (ap (λ d. at r.job (by d).jobs) e) ∙ then)
    | taken a ↦
        let d : Decision = decision (cut w now (tell r)) now (tell r) in
        let was : a.before ≡ j = is_before d a j old in
        let is : a.after ≡ k = is_after d a k then in
        subst (λ j. IsSameJob k j) was (subst (λ k. IsSameJob k a.before) is a.moved.0)
  ]

  pub accounts_left : (j : Job) (q : List ℕ) → at r.job w.jobs ≡ Some j → bytes_eq j.owner q ≡ false → get new.free q ≡ get w.free q
  accounts_left j q old other = leaves (λ v. get v.free q) (λ d a.
      let was : a.before ≡ j = is_before d a j old in
      let apart : bytes_eq q a.before.owner ≡ false = nat_list_eq_equiv.symm q a.before.owner ∙ ap (λ (t : Job). bytes_eq t.owner q) was ∙ other in
      ap (λ js. get (fold put_free w.free (map (credited js (a.after ∷ [])) (owner_row w.free js))) q) a.jobs
      ∙ others_free w.free a.before.owner q (a.before ∷ a.rest) (a.after ∷ []) apart)

  abbrev kept_of : Job → KeptReport
  kept_of x = record { report = r; state = job_state x; total = x.count }

  pub other_reports_left : (n m : ℕ) → (nat_eq n r.job && nat_eq m r.seq) ≡ false → get new.reports (n, m) ≡ get w.reports (n, m)
  other_reports_left n m other = leaves (λ v. get v.reports (n, m)) (λ d a.
      get-insert report_total w.reports (r.job, r.seq) (kept_of a.after) (n, m)
      ∙ ap (λ t. cond t (Some (kept_of a.after)) (get w.reports (n, m))) (report_test n m r.job r.seq ∙ other))

  -- ---- what is accepted for the first time

  no_reply : (cause : ReportRefusal) (s : JobState) (c : ℕ) (A : Type 0) → NotTold cause ≡ Told s c → A
  no_reply cause s c A e = absurd (cc)

  -- of a first report that is accepted, with the state and count that are told
  first_told : (s : JobState) (c : ℕ) (P : Type 0) → get w.reports (r.job, r.seq) ≡ None → (step w now (tell r)).reply ≡ Told s c
      → ((a : IsAccepted w now r (decision (cut w now (tell r)) now (tell r))) → job_state a.after ≡ s → a.after.count ≡ c → P) → P
  first_told s c P none told each = elim (telling w now r) as (λ _. P) [
    | declined cause e ↦ no_reply cause s c P (sym (ap (λ (d : Decision). d.reply) e) ∙ told)
    | known k kept same e ↦ absurd (none-some k (sym none ∙ kept))
    | taken a ↦ (let parts = told_parts s c (job_state a.after) a.after.count (sym (ap (λ (d : Decision). d.reply) a.is) ∙ told) in each a parts.0 parts.1)
  ]

  pub first_kept : (s : JobState) (c : ℕ) → get w.reports (r.job, r.seq) ≡ None → (step w now (tell r)).reply ≡ Told s c → get new.reports (r.job, r.seq) ≡ Some (record { report = r; state = s; total = c })
  first_kept s c none told = first_told s c (get new.reports (r.job, r.seq) ≡ Some (record { report = r; state = s; total = c })) none told (λ a is_state is_count.
      ap (λ d. get (by d).reports (r.job, r.seq)) a.is
      ∙ get-insert report_total w.reports (r.job, r.seq) (kept_of a.after) (r.job, r.seq)
      ∙ ap (λ t. cond t (Some (kept_of a.after)) (get w.reports (r.job, r.seq))) (own_report_key r.job r.seq)
      ∙ (λ i. Some (record { report = r; state = is_state i; total = is_count i })))

  pub first_state : (s : JobState) (c : ℕ) (k : Job) → get w.reports (r.job, r.seq) ≡ None → (step w now (tell r)).reply ≡ Told s c → at r.job new.jobs ≡ Some k → (s ≡ job_state k) × (c ≡ k.count)
  first_state s c k none told there = first_told s c ((s ≡ job_state k) × (c ≡ k.count)) none told (λ a is_state is_count.
      let d : Decision = decision (cut w now (tell r)) now (tell r) in
      let is : a.after ≡ k = is_after d a k there in
      (sym is_state ∙ ap job_state is, sym is_count ∙ ap (λ (t : Job). t.count) is))

  pub first_counted : (s : JobState) (c : ℕ) (j : Job) → get w.reports (r.job, r.seq) ≡ None → (step w now (tell r)).reply ≡ Told s c → at r.job w.jobs ≡ Some j → c ≡ max j.count r.count
  first_counted s c j none told there = first_told s c (c ≡ max j.count r.count) none told (λ a is_state is_count.
      let d : Decision = decision (cut w now (tell r)) now (tell r) in
      let was : a.before ≡ j = is_before d a j there in
      sym is_count ∙ a.moved.1 ∙ ap (λ (t : Job). max t.count r.count) was)
