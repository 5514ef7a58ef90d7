-- In which states a report of each kind is taken, and what it makes of a job.
use Rattle.std.proofs.Common.{◌≡◌, ℕ, ◌≤◌, ◌⊎◌, refl, ap, arith, inl, inr, Bool, true, false, cond}
use Rattle.std.specs.Prelude.{Option, Some, None, is_some, ◌||◌}
use Rattle.queue_types.specs.Job.{state_in}
use Rattle.queue_core.specs.Reports.{ended_as, why_halted, moved_by}
use Rattle.queue_types.specs.declared.event.Kind.TheVariants.{Start, Stop, Resume, Count, Done, Fail, Halt}
use Rattle.queue_types.specs.declared.job.Job.{Job}
use Rattle.queue_types.specs.declared.job.Phase.{Phase}
use Rattle.queue_types.specs.declared.job.Phase.TheVariants.{Waiting, Running, Stopped, Canceled, Aborted, Completed}
use Rattle.queue_laws.proofs.OneDone.{few_waiting}

pending : (hold incoming : Bool) → state_in Waiting hold incoming ≡ 3 → (hold || incoming) ≡ false
pending true incoming is = absurd (omega arith)
pending false true is = absurd (omega arith)
pending false false is = refl

pending_held : (hold incoming : Bool) → (state_in Waiting hold incoming ≡ 3 → ⊥) → (hold || incoming) ≡ true
pending_held true incoming is = refl
pending_held false true is = refl
pending_held false false is = absurd (is refl)

pub some_begun : (o : Option ℕ) → (o ≡ None → ⊥) → is_some o ≡ true
some_begun None some = absurd (some refl)
some_begun (Some n) some = refl

pub begun_some : (o : Option ℕ) → is_some o ≡ true → o ≡ None → ⊥
begun_some None some none = absurd (cc)
begun_some (Some n) some none = absurd (cc)

module _ (now : ℕ) (j : Job) where
  abbrev in_phase : Phase → ℕ
  in_phase p = state_in p j.hold j.incoming

  few : in_phase Waiting ≤ 4
  few = few_waiting j.hold j.incoming

  -- ---- taken

  pub starts : (p : Phase) → in_phase p ≡ 3 → moved_by Start p now j ≡ Some (record j { phase = Running; begun = Some now })
  starts Waiting is = ap (λ b. cond b None (Some (record j { phase = Running; begun = Some now }))) (pending j.hold j.incoming is)
  starts _ is = absurd (omega arith)

  pub stops : (p : Phase) → in_phase p ≡ 5 → moved_by Stop p now j ≡ Some (record j { phase = Stopped })
  stops Waiting is = let low = few in absurd (omega arith)
  stops Running is = refl
  stops _ is = absurd (omega arith)

  pub resumes : (p : Phase) → in_phase p ≡ 6 → moved_by Resume p now j ≡ Some (record j { phase = Running })
  resumes Waiting is = let low = few in absurd (omega arith)
  resumes Running is = absurd (omega arith)
  resumes Stopped is = refl
  resumes _ is = absurd (omega arith)

  pub counts : (p : Phase) (b : Bool) → is_some j.begun ≡ b → moved_by Count p now j ≡ cond b (Some j) None
  counts p b is = ap (λ b. cond b (Some j) None) is

  pub completes : (p : Phase) → in_phase p ≡ 5 → moved_by Done p now j ≡ Some (ended_as Completed now j)
  completes Waiting is = let low = few in absurd (omega arith)
  completes Running is = refl
  completes _ is = absurd (omega arith)

  pub fails : (p : Phase) → 5 ≤ in_phase p → in_phase p ≤ 6 → moved_by Fail p now j ≡ Some (ended_as Aborted now j)
  fails Waiting high low = let least = few in absurd (omega arith)
  fails Running high low = refl
  fails Stopped high low = refl
  fails _ high low = absurd (omega arith)

  pub halts : (p : Phase) → 5 ≤ in_phase p → in_phase p ≤ 6 → moved_by Halt p now j ≡ Some (ended_as (Canceled (why_halted j.stopping)) now j)
  halts Waiting high low = let least = few in absurd (omega arith)
  halts Running high low = refl
  halts Stopped high low = refl
  halts _ high low = absurd (omega arith)

  -- ---- not taken

  pub starts_not : (p : Phase) → (in_phase p ≡ 3 → ⊥) → moved_by Start p now j ≡ None
  starts_not Waiting other = ap (λ b. cond b None (Some (record j { phase = Running; begun = Some now }))) (pending_held j.hold j.incoming other)
  starts_not _ other = refl

  pub stops_not : (p : Phase) → (in_phase p ≡ 5 → ⊥) → moved_by Stop p now j ≡ None
  stops_not Waiting other = refl
  stops_not Running other = absurd (other refl)
  stops_not _ other = refl

  pub resumes_not : (p : Phase) → (in_phase p ≡ 6 → ⊥) → moved_by Resume p now j ≡ None
  resumes_not Waiting other = refl
  resumes_not Running other = refl
  resumes_not Stopped other = absurd (other refl)
  resumes_not _ other = refl

  pub completes_not : (p : Phase) → (in_phase p ≡ 5 → ⊥) → moved_by Done p now j ≡ None
  completes_not Waiting other = refl
  completes_not Running other = absurd (other refl)
  completes_not _ other = refl

  neither : (A : Type 0) (n : ℕ) → 5 ≤ n → n ≤ 6 → (n ≤ 4) ⊎ (7 ≤ n) → A
  neither A n high low (inl less) = absurd (omega arith)
  neither A n high low (inr more) = absurd (omega arith)

  pub fails_not : (p : Phase) → (in_phase p ≤ 4) ⊎ (7 ≤ in_phase p) → moved_by Fail p now j ≡ None
  fails_not Waiting other = refl
  fails_not Running other = neither _ 5 (omega arith) (omega arith) other
  fails_not Stopped other = neither _ 6 (omega arith) (omega arith) other
  fails_not _ other = refl

  pub halts_not : (p : Phase) → (in_phase p ≤ 4) ⊎ (7 ≤ in_phase p) → moved_by Halt p now j ≡ None
  halts_not Waiting other = refl
  halts_not Running other = neither _ 5 (omega arith) (omega arith) other
  halts_not Stopped other = neither _ 6 (omega arith) (omega arith) other
  halts_not _ other = refl
