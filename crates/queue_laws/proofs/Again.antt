-- Reports that were accepted stay kept, and are answered as they were.
use Rattle.std.proofs.Common.{◌≡◌, ℕ, List, [], ◌∷◌, refl, ap, sym, ◌∙◌, true, false, cond}
use Rattle.std.specs.Prelude.{Option, Some, None, IfSome, is_some, nat_eq, ◌&&◌}
use Rattle.std.specs.List.{AllByRecursion as Each}
use Rattle.std.specs.FinMap.{FinMap, get, get-insert}
use Rattle.queue_types.specs.Event.{Decision, Event, ask, tell, grant, expire, kind_number}
use Rattle.queue_types.specs.Job.{job_state}
use Rattle.queue_core.specs.Limits.{IsMoment, IsReport}
use Rattle.queue_core.specs.World.{World, rows, cut, made_on, job_at, numbered, report_cmp}
use Rattle.queue_core.specs.Reports.{is_same_report}
use Rattle.queue_core.specs.Machine.{Step, decision, step, answered, report_row}
use Rattle.queue_core.specs.Runs.{Place, IsPlace, after, run}
use Rattle.queue_core.specs.Sound.{IsSound, IsKept}
use Rattle.queue_types.specs.declared.event.KeptReport.{KeptReport}
use Rattle.queue_types.specs.declared.event.Report.{Report}
use Rattle.queue_types.specs.declared.event.ReportRefusal.TheVariants.{Conflict}
use Rattle.queue_types.specs.declared.event.Reply.{Reply}
use Rattle.queue_types.specs.declared.states.JobState.{JobState}
use Rattle.queue_types.specs.declared.event.Reply.TheVariants.{Told, NotTold}
use Rattle.queue_types.specs.declared.job.Job.{Job}
use Rattle.queue_laws.proofs.Base.{itself}
use Rattle.queue_laws.proofs.Books.{reports_kept}
use Rattle.queue_core.proofs.Maps.{report_total, is_report_key, own_report_key, report_key}
use Rattle.queue_laws.proofs.Telling.{declined, known, taken, telling, told_parts}
use Rattle.queue_laws.proofs.Filed.{reports_left}

-- under the report's job and sequence number an equal one is kept, with that state and count
pub record IsKeptAs (kept : FinMap report_cmp KeptReport) (r : Report) (s : JobState) (c : ℕ) : Type 0 where
  pub report : KeptReport
  pub there : get kept (r.job, r.seq) ≡ Some report
  pub same : is_same_report r report.report ≡ true
  pub state : report.state ≡ s
  pub total : report.total ≡ c

same_itself : (r : Report) → is_same_report r r ≡ true
same_itself r = ap (λ b. b && nat_eq r.count r.count) (itself (kind_number r.kind)) ∙ itself r.count

no_reply : (t u : Reply) (A : Type 0) → t ≡ u → (t ≡ u → ⊥) → A
no_reply t u A e never = absurd (never e)

-- a report that is accepted, now or again, is kept afterwards with what it was told
pub told_kept : (w : World) (now : ℕ) (r : Report) (s : JobState) (c : ℕ) → (step w now (tell r)).reply ≡ Told s c → IsKeptAs (step w now (tell r)).world.reports r s c
told_kept w now r s c told = elim (telling w now r) as (λ _. IsKeptAs (step w now (tell r)).world.reports r s c) [
  | declined cause e ↦ no_reply (NotTold cause) (Told s c) _ (sym (ap (λ (d : Decision). d.reply) e) ∙ told) (λ e. cc)
  | known k kept same e ↦ (
      let parts = told_parts s c k.state k.total (sym (ap (λ (d : Decision). d.reply) e) ∙ told) in
      record { report = k; there = ap (λ (d : Decision). get (made_on d.change w).reports (r.job, r.seq)) e ∙ kept; same = same; state = parts.0; total = parts.1 })
  | taken a ↦ (
      let x : Job = a.after in
      let new : KeptReport = record { report = r; state = job_state x; total = x.count } in
      let parts = told_parts s c (job_state x) x.count (sym (ap (λ (d : Decision). d.reply) a.is) ∙ told) in
      record {
        report = new;
        there =
            ap (λ (d : Decision). get (made_on d.change w).reports (r.job, r.seq)) a.is
            ∙ get-insert report_total w.reports (r.job, r.seq) new (r.job, r.seq)
            ∙ ap (λ b. cond b (Some new) (get w.reports (r.job, r.seq))) (own_report_key r.job r.seq);
        same = same_itself r;
        state = parts.0;
        total = parts.1;
      })
]

-- ---- what is kept stays

no_first : (kept : FinMap report_cmp KeptReport) (n m job seq : ℕ) (k : KeptReport) → is_report_key (n, m) (job, seq) ≡ true → get kept (job, seq) ≡ None → get kept (n, m) ≡ Some k → ⊥
no_first kept n m job seq k same none some =
    let keys = report_key n m job seq same in
    let other : get kept (n, m) ≡ None = (λ i. get kept (keys.0 i, keys.1 i)) ∙ none in
    cc

stays_told : (w : World) (now : ℕ) (r : Report) (n m : ℕ) (k : KeptReport) → get w.reports (n, m) ≡ Some k → get (step w now (tell r)).world.reports (n, m) ≡ Some k
stays_told w now r n m k kept = elim (telling w now r) as (λ _. get (step w now (tell r)).world.reports (n, m) ≡ Some k) [
  | declined cause e ↦ ap (λ (d : Decision). get (made_on d.change w).reports (n, m)) e ∙ kept
  | known l there same e ↦ ap (λ (d : Decision). get (made_on d.change w).reports (n, m)) e ∙ kept
  | taken a ↦ (
      let new : KeptReport = record { report = r; state = job_state a.after; total = a.after.count } in
      ap (λ (d : Decision). get (made_on d.change w).reports (n, m)) a.is
      ∙ get-insert report_total w.reports (r.job, r.seq) new (n, m)
      ∙ elim (is_report_key (n, m) (r.job, r.seq)) as (λ b. is_report_key (n, m) (r.job, r.seq) ≡ b → cond b (Some new) (get w.reports (n, m)) ≡ Some k) [
        | true ↦ λ same. absurd (no_first w.reports n m r.job r.seq k same a.first kept)
        | false ↦ λ same. kept
      ] refl)
]

pub stays : (w : World) (now : ℕ) (e : Option Event) (n m : ℕ) (k : KeptReport) → get w.reports (n, m) ≡ Some k → get (after w now e).reports (n, m) ≡ Some k
stays w now None n m k kept = kept
stays w now (Some (ask caller call)) n m k kept = ap (λ reports. get reports (n, m)) (reports_kept w now caller call) ∙ kept
stays w now (Some (tell r)) n m k kept = stays_told w now r n m k kept
stays w now (Some (grant rows)) n m k kept = ap (λ reports. get reports (n, m)) (reports_left w now rows) ∙ kept
stays w now (Some expire) n m k kept = kept

pub kept_stays : (w : World) (now : ℕ) (e : Option Event) (r : Report) (s : JobState) (c : ℕ) → IsKeptAs w.reports r s c → IsKeptAs (after w now e).reports r s c
kept_stays w now e r s c kept = record { report = kept.report; there = stays w now e r.job r.seq kept.report kept.there; same = kept.same; state = kept.state; total = kept.total }

kept_along : (ps : List Place) (w : World) (r : Report) (s : JobState) (c : ℕ) → IsKeptAs w.reports r s c → IsKeptAs (run w ps).reports r s c
kept_along [] w r s c kept = kept
kept_along (p ∷ ps) w r s c kept = kept_along ps (after w p.now p.event) r s c (kept_stays w p.now p.event r s c kept)

-- ---- it is answered as it was

there_of : (w : World) (n seq : ℕ) (o : Option KeptReport) (k : KeptReport) → o ≡ Some k → IfSome o (IsKept w n seq) → is_some (job_at n (rows w)) ≡ true
there_of w n seq None k is kept = absurd (cc)
there_of w n seq (Some l) k is kept = kept.there

some_there : (n : ℕ) (js : List Job) → is_some (job_at n js) ≡ true → numbered n js ≡ [] → ⊥
some_there n [] there none = absurd (cc)
some_there n (j ∷ js) there none =
    elim (nat_eq j.number n) as (λ t. is_some (cond t (Some j) (job_at n js)) ≡ true → cond t (j ∷ numbered n js) (numbered n js) ≡ [] → ⊥) [
      | true ↦ λ there none. absurd (cc)
      | false ↦ λ there none. some_there n js there none
    ] there none

module _ (w : World) (later : ℕ) (r : Report) (s : JobState) (c : ℕ) (sound : IsSound w) (kept : IsKeptAs w.reports r s c) where
  again_row : (js : List Job) → numbered r.job (rows w) ≡ js → report_row (cut w later (tell r)) later r js (Some kept.report) ≡ answered (Told kept.report.state kept.report.total)
  again_row [] e = absurd (some_there r.job (rows w) (there_of w r.job r.seq (get w.reports (r.job, r.seq)) kept.report kept.there (sound.reports r.job r.seq)) e)
  again_row (j ∷ rest) e = ap (λ b. cond b (answered (Told kept.report.state kept.report.total)) (answered (NotTold Conflict))) kept.same

  pub decided_again : decision (cut w later (tell r)) later (tell r) ≡ answered (Told s c)
  decided_again =
      ap (report_row (cut w later (tell r)) later r (numbered r.job (rows w))) kept.there
      ∙ again_row (numbered r.job (rows w)) refl
      ∙ (λ i. answered (Told (kept.state i) (kept.total i)))

  pub told_again : step w later (tell r) ≡ record { world = w; reply = Told s c }
  told_again = ap (λ (d : Decision). let s : Step = record { world = made_on d.change w; reply = d.reply } in s) decided_again

-- places keep a world sound
abbrev pub KeepsSound : Type 0
KeepsSound = (w : World) (ps : List Place) → IsSound w → Each IsPlace ps → IsSound (run w ps)

pub answered_again : KeepsSound → (w : World) (now later : ℕ) (r : Report) (ps : List Place) (s : JobState) (c : ℕ) → IsSound w → IsMoment now → IsReport r → Each IsPlace ps → (step w now (tell r)).reply ≡ Told s c → step (run (step w now (tell r)).world ps) later (tell r) ≡ record { world = run (step w now (tell r)).world ps; reply = Told s c }
answered_again keeps w now later r ps s c sound moment limits places told =
    let v : World = (step w now (tell r)).world in
    let first : Place = record { now = now; event = Some (tell r) } in
    let then : IsSound (run v ps) = keeps w (first ∷ ps) sound ((moment, limits), places) in
    told_again (run v ps) later r s c then (kept_along ps v r s c (told_kept w now r s c told))
