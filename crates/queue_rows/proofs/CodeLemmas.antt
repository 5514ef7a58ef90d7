-- What stands for a number of a column.
use Rattle.std.proofs.Common.{◌≡◌, Option, None, Some, ℕ, ◌==◌, Bool, true, false, cond, refl, sym, ap, ◌∙◌}
use Rattle.queue_types.specs.declared.event.Kind.{Kind}
use Rattle.queue_types.specs.declared.event.Kind.TheVariants.{Start, Stop, Resume, Count, Done, Fail, Halt}
use Rattle.queue_types.specs.declared.job.Phase.{Phase}
use Rattle.queue_types.specs.declared.job.Phase.TheVariants.{Waiting, Running, Stopped, Canceled, Aborted, Completed}
use Rattle.queue_types.specs.declared.job.Why.{Why}
use Rattle.queue_types.specs.declared.job.Why.TheVariants.{ByUser, AtDevice, ByOperator}
use Rattle.queue_types.specs.declared.states.JobState.{JobState}
use Rattle.queue_types.specs.declared.states.JobState.TheVariants.{Pending, PendingHeld, Processing, ProcessingStopped, Canceled as CanceledState, Aborted as AbortedState, Completed as CompletedState}
use Rattle.queue_rows.specs.Codes.{cause_number, phase_number, stopping_number, why_number, kind_number, flag_number, job_state_number}

abbrev why_at : ℕ → Why
why_at m = cond (m == 1) ByUser (cond (m == 2) AtDevice ByOperator)

abbrev phase_at : ℕ → ℕ → Phase
phase_at n m = cond (n == 0) Waiting (cond (n == 1) Running (cond (n == 2) Stopped (cond (n == 7) (Canceled (why_at m)) (cond (n == 8) Aborted Completed))))

phase_found : (p : Phase) (s : Option Why) → phase_at (phase_number p) (why_number p s) ≡ p
phase_found (Canceled ByUser) s = refl
phase_found (Canceled AtDevice) s = refl
phase_found (Canceled ByOperator) s = refl
phase_found Waiting s = refl
phase_found Running s = refl
phase_found Stopped s = refl
phase_found Aborted s = refl
phase_found Completed s = refl

same_phase : (p q : Phase) (s t : Option Why) → phase_number p ≡ phase_number q → why_number p s ≡ why_number q t → p ≡ q
same_phase p q s t n m = sym (phase_found p s) ∙ ap (λ (k : ℕ). phase_at k (why_number p s)) n ∙ ap (phase_at (phase_number q)) m ∙ phase_found q t

abbrev cause_at : ℕ → Option Why
cause_at m = cond (m == 0) None (Some (why_at m))

cause_found : (s : Option Why) → cause_at (cause_number s) ≡ s
cause_found None = refl
cause_found (Some ByUser) = refl
cause_found (Some AtDevice) = refl
cause_found (Some ByOperator) = refl

same_cause : (s t : Option Why) → cause_number s ≡ cause_number t → s ≡ t
same_cause s t n = sym (cause_found s) ∙ ap cause_at n ∙ cause_found t

-- of one phase
same_stopping : (p : Phase) (s t : Option Why) → why_number p s ≡ why_number p t → stopping_number p s ≡ stopping_number p t → s ≡ t
same_stopping Waiting s t w m = same_cause s t w
same_stopping Running s t w m = same_cause s t w
same_stopping Stopped s t w m = same_cause s t w
same_stopping (Canceled why) s t w m = same_cause s t m
same_stopping Aborted s t w m = same_cause s t w
same_stopping Completed s t w m = same_cause s t w

pub same_course : (p q : Phase) (s t : Option Why) → phase_number p ≡ phase_number q → why_number p s ≡ why_number q t → stopping_number p s ≡ stopping_number q t → (p ≡ q) × (s ≡ t)
same_course p q s t n w m =
    let phase = same_phase p q s t n w in
    (phase, same_stopping q s t (ap (λ k. why_number k s) (sym phase) ∙ w) (ap (λ k. stopping_number k s) (sym phase) ∙ m))

abbrev kind_at : ℕ → Kind
kind_at n = cond (n == 1) Start (cond (n == 2) Stop (cond (n == 3) Resume (cond (n == 4) Count (cond (n == 5) Done (cond (n == 6) Fail Halt)))))

kind_found : (k : Kind) → kind_at (kind_number k) ≡ k
kind_found Start = refl
kind_found _ = refl

pub same_kind : (k l : Kind) → kind_number k ≡ kind_number l → k ≡ l
same_kind k l n = sym (kind_found k) ∙ ap kind_at n ∙ kind_found l

abbrev job_state_at : ℕ → JobState
job_state_at n = cond (n == 3) Pending (cond (n == 4) PendingHeld (cond (n == 5) Processing (cond (n == 6) ProcessingStopped (cond (n == 7) CanceledState (cond (n == 8) AbortedState CompletedState)))))

job_state_found : (s : JobState) → job_state_at (job_state_number s) ≡ s
job_state_found Pending = refl
job_state_found _ = refl

pub same_job_state : (s t : JobState) → job_state_number s ≡ job_state_number t → s ≡ t
same_job_state s t n = sym (job_state_found s) ∙ ap job_state_at n ∙ job_state_found t

flag_found : (b : Bool) → flag_number b == 1 ≡ b
flag_found true = refl
flag_found false = refl

pub same_flag : (a b : Bool) → flag_number a ≡ flag_number b → a ≡ b
same_flag a b n = sym (flag_found a) ∙ ap (λ (k : ℕ). k == 1) n ∙ flag_found b
