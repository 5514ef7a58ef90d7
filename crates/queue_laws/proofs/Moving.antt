-- What becomes of a report by its kind and its job's state.
use Rattle.std.proofs.Common.{◌≡◌, ℕ, ◌≤◌, ◌⊎◌, List, ◌∷◌, refl, ap, sym, ◌∙◌, arith, Bool, true, false, cond}
use Rattle.std.specs.Prelude.{Option, Some, None, nat_eq, is_some, ◌&&◌}
use Rattle.std.specs.FinMap.{get}
use Rattle.std.proofs.lemmas.Bool.{and_right, ne_eqb}
use Rattle.queue_types.specs.Event.{tell, kind_number}
use Rattle.queue_types.specs.Job.{job_state, state, state_in}
use Rattle.queue_core.specs.World.{World, rows, cut}
use Rattle.queue_core.specs.Limits.{FitsPhase}
use Rattle.queue_core.specs.Machine.{Step, step, answered, accepted_where, report_row}
use Rattle.queue_core.specs.Reports.{counted, ended_as, why_halted, moved_by, reported, is_same_report}
use Rattle.queue_core.specs.Sound.{IsSound}
use Rattle.queue_types.specs.declared.event.KeptReport.{KeptReport}
use Rattle.queue_types.specs.declared.event.Kind.{Kind}
use Rattle.queue_types.specs.declared.event.Kind.TheVariants.{Start, Stop, Resume, Count, Done, Fail, Halt}
use Rattle.queue_types.specs.declared.event.Report.{Report}
use Rattle.queue_types.specs.declared.event.ReportRefusal.TheVariants.{NoJob, State, Conflict}
use Rattle.queue_types.specs.declared.event.Reply.TheVariants.{Told, NotTold}
use Rattle.queue_types.specs.declared.event.Scene.{Scene}
use Rattle.queue_types.specs.declared.job.Job.{Job}
use Rattle.queue_types.specs.declared.job.Why.{Why}
use Rattle.queue_types.specs.declared.job.Phase.{Phase}
use Rattle.queue_types.specs.declared.job.Phase.TheVariants.{Waiting, Running, Stopped, Canceled, Aborted, Completed}
use Rattle.queue_types.specs.declared.job.Why.TheVariants.{AtDevice}
use Rattle.queue_types.specs.declared.states.JobState.{JobState}
use Rattle.queue_types.specs.declared.states.JobState.TheVariants.{Processing, ProcessingStopped, Canceled as CanceledState, Aborted as AbortedState, Completed as CompletedState}
use Rattle.queue_core.proofs.Moves.{at-with_row}
use Rattle.queue_laws.specs.Jobs.{Waits, HasEnded}
use Rattle.queue_laws.specs.Reporting.{Becomes, ended_by}
use Rattle.queue_laws.proofs.Base.{at, itself, first_named, named, none_named}
use Rattle.queue_laws.proofs.OfKind.{starts, stops, resumes, counts, completes, fails, halts, starts_not, stops_not, resumes_not, completes_not, fails_not, halts_not, some_begun, begun_some}
use Rattle.queue_laws.proofs.OneDone.{by, few_waiting}
use Rattle.queue_laws.proofs.Work.{sound_at}

-- ---- kinds and counts

abbrev kind_of : ℕ → Kind
kind_of n = cond (nat_eq n 1) Start (cond (nat_eq n 2) Stop (cond (nat_eq n 3) Resume (cond (nat_eq n 4) Count (cond (nat_eq n 5) Done (cond (nat_eq n 6) Fail Halt)))))

its_kind : (k : Kind) → kind_of (kind_number k) ≡ k
its_kind Start = refl
its_kind _ = refl

pub same_kind : (a b : Kind) → kind_number a ≡ kind_number b → a ≡ b
same_kind a b e = sym (its_kind a) ∙ ap kind_of e ∙ its_kind b

-- ---- when a job has begun

begun_in : (p : Phase) (j : Job) → FitsPhase p j → 5 ≤ state_in p j.hold j.incoming → state_in p j.hold j.incoming ≤ 6 → is_some j.begun ≡ true
begun_in Waiting j fits high low = let least = few_waiting j.hold j.incoming in absurd (omega arith)
begun_in Running j fits high low = fits.2
begun_in Stopped j fits high low = fits.2
begun_in _ j fits high low = absurd (omega arith)

waiting_in : (p : Phase) (j : Job) → FitsPhase p j → state_in p j.hold j.incoming ≤ 4 → j.begun ≡ None
waiting_in Waiting j fits low = fits.1
waiting_in _ j fits low = absurd (omega arith)

pub printing_begun : (w : World) (n : ℕ) (j : Job) → IsSound w → at n w.jobs ≡ Some j → 5 ≤ state j → state j ≤ 6 → j.begun ≡ None → ⊥
printing_begun w n j sound there high low = begun_some j.begun (begun_in j.phase j (sound_at n j w.jobs sound.entries there).phase high low)

pub waiting_unbegun : (w : World) (n : ℕ) (j : Job) → IsSound w → at n w.jobs ≡ Some j → state j ≤ 4 → j.begun ≡ None
waiting_unbegun w n j sound there low = waiting_in j.phase j (sound_at n j w.jobs sound.entries there).phase low

-- ---- the step

module _ (w : World) (now : ℕ) (r : Report) where
  abbrev scene : Scene
  scene = cut w now (tell r)

  pub no_job : at r.job w.jobs ≡ None → step w now (tell r) ≡ record { world = w; reply = NotTold NoJob }
  no_job none = ap (λ js. by w (report_row scene now r js scene.report)) (none_named r.job (rows w) none)

  module _ (j : Job) (there : at r.job w.jobs ≡ Some j) where
    abbrev rest : List Job
    rest = (named r.job (rows w) j there).rest

    found_step : (o : Option KeptReport) → get w.reports (r.job, r.seq) ≡ o → step w now (tell r) ≡ by w (report_row scene now r (j ∷ rest) o)
    found_step o is = ap (λ js. by w (report_row scene now r js scene.report)) (named r.job (rows w) j there).is ∙ ap (λ o. by w (report_row scene now r (j ∷ rest) o)) is

    first_step : get w.reports (r.job, r.seq) ≡ None → (o : Option Job) → reported r now j ≡ o → step w now (tell r) ≡ by w (accepted_where scene r o)
    first_step none o is = found_step None none ∙ ap (λ o. by w (accepted_where scene r o)) is

    number : j.number ≡ r.job
    number = (first_named r.job (rows w) j rest (named r.job (rows w) j there).is).1

    becomes : get w.reports (r.job, r.seq) ≡ None → (n : JobState) (x : Job) → reported r now j ≡ Some (counted r.count x) → x.number ≡ j.number → job_state x ≡ n → Becomes r n x (step w now (tell r))
    becomes none n x is same in_state =
        let y : Job = counted r.count x in
        let comes = first_step none (Some y) is in
        record {
          job = ap (λ (s : Step). at r.job s.world.jobs) comes ∙ at-with_row r.job y w.jobs ∙ ap (λ t. cond t (Some y) (at r.job w.jobs)) (ap (λ m. nat_eq m r.job) (same ∙ number) ∙ itself r.job);
          state = in_state;
          told = ap (λ (s : Step). s.reply) comes ∙ ap (λ m. Told m y.count) in_state;
        }

    refused : get w.reports (r.job, r.seq) ≡ None → reported r now j ≡ None → step w now (tell r) ≡ record { world = w; reply = NotTold State }
    refused none is = first_step none None is

    -- ---- by kind

    abbrev y : Job
    y = counted r.count j

    of_kind : (k : Kind) (o : Option Job) → r.kind ≡ k → moved_by k j.phase now y ≡ o → reported r now j ≡ o
    of_kind k o kind is = ap (λ k. moved_by k j.phase now y) kind ∙ is

    module _ (none : get w.reports (r.job, r.seq) ≡ None) where
      pub started : r.kind ≡ Start → state j ≡ 3 → Becomes r Processing (record j { phase = Running; begun = Some now }) (step w now (tell r))
      started kind is = becomes none Processing (record j { phase = Running; begun = Some now }) (of_kind Start _ kind (starts now y j.phase is)) refl refl

      pub stopped : r.kind ≡ Stop → state j ≡ 5 → Becomes r ProcessingStopped (record j { phase = Stopped }) (step w now (tell r))
      stopped kind is = becomes none ProcessingStopped (record j { phase = Stopped }) (of_kind Stop _ kind (stops now y j.phase is)) refl refl

      pub resumed : r.kind ≡ Resume → state j ≡ 6 → Becomes r Processing (record j { phase = Running }) (step w now (tell r))
      resumed kind is = becomes none Processing (record j { phase = Running }) (of_kind Resume _ kind (resumes now y j.phase is)) refl refl

      pub counts_job : r.kind ≡ Count → (j.begun ≡ None → ⊥) → Becomes r (job_state j) j (step w now (tell r))
      counts_job kind began = becomes none (job_state j) j (of_kind Count _ kind (counts now y j.phase true (some_begun j.begun began))) refl refl

      pub done : r.kind ≡ Done → state j ≡ 5 → Becomes r CompletedState (ended_by Completed now j) (step w now (tell r))
      done kind is = becomes none CompletedState (ended_by Completed now j) (of_kind Done _ kind (completes now y j.phase is)) refl refl

      pub failed : r.kind ≡ Fail → 5 ≤ state j → state j ≤ 6 → Becomes r AbortedState (ended_by Aborted now j) (step w now (tell r))
      failed kind high low = becomes none AbortedState (ended_by Aborted now j) (of_kind Fail _ kind (fails now y j.phase high low)) refl refl

      halted : (o : Option Why) → r.kind ≡ Halt → 5 ≤ state j → state j ≤ 6 → j.stopping ≡ o → Becomes r CanceledState (ended_by (Canceled (why_halted o)) now j) (step w now (tell r))
      halted o kind high low asked = becomes none CanceledState (ended_by (Canceled (why_halted o)) now j) (of_kind Halt _ kind (halts now y j.phase high low) ∙ ap (λ o. Some (ended_as (Canceled (why_halted o)) now y)) asked) refl refl

      pub halted_for_asker : (why : Why) → r.kind ≡ Halt → 5 ≤ state j → state j ≤ 6 → j.stopping ≡ Some why → Becomes r CanceledState (ended_by (Canceled why) now j) (step w now (tell r))
      halted_for_asker why = halted (Some why)

      pub halted_at_device : r.kind ≡ Halt → 5 ≤ state j → state j ≤ 6 → j.stopping ≡ None → Becomes r CanceledState (ended_by (Canceled AtDevice) now j) (step w now (tell r))
      halted_at_device = halted None

      -- ---- not taken

      abbrev IsRefused : Type 0
      IsRefused = step w now (tell r) ≡ record { world = w; reply = NotTold State }

      pub unstarted : r.kind ≡ Start → (state j ≡ 3 → ⊥) → IsRefused
      unstarted kind other = refused none (of_kind Start None kind (starts_not now y j.phase other))

      pub unstopped : r.kind ≡ Stop → (state j ≡ 5 → ⊥) → IsRefused
      unstopped kind other = refused none (of_kind Stop None kind (stops_not now y j.phase other))

      pub unresumed : r.kind ≡ Resume → (state j ≡ 6 → ⊥) → IsRefused
      unresumed kind other = refused none (of_kind Resume None kind (resumes_not now y j.phase other))

      pub uncounted : r.kind ≡ Count → j.begun ≡ None → IsRefused
      uncounted kind never = refused none (of_kind Count None kind (counts now y j.phase false (ap is_some never)))

      pub undone : r.kind ≡ Done → (state j ≡ 5 → ⊥) → IsRefused
      undone kind other = refused none (of_kind Done None kind (completes_not now y j.phase other))

      pub unfailed : r.kind ≡ Fail → Waits j ⊎ HasEnded j → IsRefused
      unfailed kind other = refused none (of_kind Fail None kind (fails_not now y j.phase other))

      pub unhalted : r.kind ≡ Halt → Waits j ⊎ HasEnded j → IsRefused
      unhalted kind other = refused none (of_kind Halt None kind (halts_not now y j.phase other))

    -- ---- a job that is there

    finds : (o : Option KeptReport) → (report_row scene now r (j ∷ rest) o).reply ≡ NotTold NoJob → ⊥
    finds None = elim (reported r now j) as (λ x. (accepted_where scene r x).reply ≡ NotTold NoJob → ⊥) [ None ↦ λ e. cc | Some x ↦ λ e. cc ]
    finds (Some k) = elim (is_same_report r k.report) as (λ b. (cond b (answered (Told k.state k.total)) (answered (NotTold Conflict))).reply ≡ NotTold NoJob → ⊥) [ true ↦ λ e. cc | false ↦ λ e. cc ]

    pub found : (step w now (tell r)).reply ≡ NotTold NoJob → ⊥
    found e = finds (get w.reports (r.job, r.seq)) (sym (ap (λ (s : Step). s.reply) (found_step (get w.reports (r.job, r.seq)) refl)) ∙ e)

    compared : (k : KeptReport) → get w.reports (r.job, r.seq) ≡ Some k → (b : Bool) → is_same_report r k.report ≡ b → step w now (tell r) ≡ by w (cond b (answered (Told k.state k.total)) (answered (NotTold Conflict)))
    compared k kept b is = found_step (Some k) kept ∙ ap (λ b. by w (cond b (answered (Told k.state k.total)) (answered (NotTold Conflict)))) is

    pub other_kind : (k : KeptReport) → get w.reports (r.job, r.seq) ≡ Some k → (r.kind ≡ k.report.kind → ⊥) → step w now (tell r) ≡ record { world = w; reply = NotTold Conflict }
    other_kind k kept other = compared k kept false (ap (λ b. b && nat_eq r.count k.report.count) (ne_eqb (kind_number r.kind) (kind_number k.report.kind) (λ e. other (same_kind r.kind k.report.kind e))))

    pub other_count : (k : KeptReport) → get w.reports (r.job, r.seq) ≡ Some k → (r.count ≡ k.report.count → ⊥) → step w now (tell r) ≡ record { world = w; reply = NotTold Conflict }
    other_count k kept other = compared k kept false (ap (λ b. nat_eq (kind_number r.kind) (kind_number k.report.kind) && b) (ne_eqb r.count k.report.count other) ∙ and_right (nat_eq (kind_number r.kind) (kind_number k.report.kind)) false refl)

    pub same : (k : KeptReport) → get w.reports (r.job, r.seq) ≡ Some k → r.kind ≡ k.report.kind → r.count ≡ k.report.count → step w now (tell r) ≡ record { world = w; reply = Told k.state k.total }
    same k kept kind count = compared k kept true ((λ i. nat_eq (kind_number (kind i)) (kind_number k.report.kind) && nat_eq (count i) k.report.count) ∙ ap (λ b. b && nat_eq k.report.count k.report.count) (itself (kind_number k.report.kind)) ∙ itself k.report.count)
