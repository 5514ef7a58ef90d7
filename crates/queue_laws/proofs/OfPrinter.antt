-- What Get-Printer-Attributes counts.
use Rattle.std.proofs.Common.{◌≡◌, ℕ, ◌+◌, List, [], ◌∷◌, refl, ap, ◌∙◌, arith, Bool, true, false, cond}
use Rattle.std.specs.Prelude.{nat_eq, nat_le, nat_lt, count_by, ◌||◌}
use Rattle.std.specs.List.{list_any}
use Rattle.std.proofs.lemmas.List.Sums.{sum_by-cons}
use Rattle.std.proofs.lemmas.Bool.{lt-ltb}
use Rattle.queue_types.specs.Event.{ask, get_printer_attributes}
use Rattle.queue_types.specs.Job.{state, state_in, is_running, is_running_in, is_stopped, is_stopped_in}
use Rattle.queue_core.specs.Machine.{step}
use Rattle.queue_core.specs.World.{World, rows}
use Rattle.queue_types.specs.declared.event.Reply.TheVariants.{Printer}
use Rattle.queue_types.specs.declared.event.WhichJobs.TheVariants.{NotCompleted}
use Rattle.queue_types.specs.declared.job.Job.{Job}
use Rattle.queue_types.specs.declared.job.Phase.{Phase}
use Rattle.queue_types.specs.declared.job.Phase.TheVariants.{Waiting}
use Rattle.queue_types.specs.declared.states.PrinterState.TheVariants.{Idle, Processing as PrinterProcessing, Stopped as PrinterStopped}
use Rattle.queue_laws.specs.Jobs.{is_unfinished, printer_state}
use Rattle.queue_laws.proofs.InOrder.{kind_is}

running_is : (p : Phase) (hold incoming : Bool) → is_running_in p ≡ nat_eq (state_in p hold incoming) 5
running_is Waiting true incoming = refl
running_is Waiting false true = refl
running_is Waiting false false = refl
running_is _ hold incoming = refl

stopped_is : (p : Phase) (hold incoming : Bool) → is_stopped_in p ≡ nat_eq (state_in p hold incoming) 6
stopped_is Waiting true incoming = refl
stopped_is Waiting false true = refl
stopped_is Waiting false false = refl
stopped_is _ hold incoming = refl

no_more : (n : ℕ) → 0 + n ≡ n
no_more n = omega arith

-- some job is so where more than none is
some_is : (p : Job → Bool) (js : List Job) → nat_lt 0 (count_by p js) ≡ list_any p js
some_is p [] = refl
some_is p (j ∷ js) =
    ap (nat_lt 0) (sum_by-cons (λ j. cond (p j) 1 0) j js)
    ∙ elim (p j) as (λ b. nat_lt 0 (cond b 1 0 + count_by p js) ≡ (b || list_any p js)) [
      | true ↦ lt-ltb 0 (1 + count_by p js) (omega arith)
      | false ↦ ap (nat_lt 0) (no_more (count_by p js)) ∙ some_is p js
    ]

pub printer_shown : (w : World) (now : ℕ) (caller : List ℕ) → (step w now (ask caller get_printer_attributes)).reply ≡ Printer (printer_state (rows w)) (count_by is_unfinished (rows w)) (nat_le w.next 2147483647)
printer_shown w now caller = λ i. Printer
    (cond (some_running i) PrinterProcessing (cond (some_stopped i) PrinterStopped Idle))
    (count_by (λ j. kind_is NotCompleted j i) (rows w))
    (nat_le w.next 2147483647)
  where
    some_running : nat_lt 0 (count_by is_running (rows w)) ≡ list_any (λ j. nat_eq (state j) 5) (rows w)
    some_running = some_is is_running (rows w) ∙ (λ i. list_any (λ (j : Job). running_is j.phase j.hold j.incoming i) (rows w))

    some_stopped : nat_lt 0 (count_by is_stopped (rows w)) ≡ list_any (λ j. nat_eq (state j) 6) (rows w)
    some_stopped = some_is is_stopped (rows w) ∙ (λ i. list_any (λ (j : Job). stopped_is j.phase j.hold j.incoming i) (rows w))
