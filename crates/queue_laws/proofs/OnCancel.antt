-- What Cancel-Job makes of a job.
use Rattle.std.proofs.Common.{◌≡◌, ℕ, ◌≤◌, List, refl, ap, ◌∙◌, arith, true, false, cond}
use Rattle.std.specs.Prelude.{Option, Some, None, ◌||◌, bytes_eq, is_none}
use Rattle.std.proofs.lemmas.Bool.{or_right}
use Rattle.queue_types.specs.Event.{Decision, ask, cancel_job}
use Rattle.queue_types.specs.Job.{state_in}
use Rattle.queue_types.specs.Operators.{is_operator}
use Rattle.queue_core.specs.World.{World, Entry, rows, cut, numbered}
use Rattle.queue_core.specs.Machine.{step, becomes, refused, canceled_in, cause, is_cancelable_in, cancel_row}
use Rattle.queue_types.specs.declared.job.Job.{Job}
use Rattle.queue_types.specs.declared.job.Phase.{Phase}
use Rattle.queue_types.specs.declared.job.Phase.TheVariants.{Waiting, Running, Stopped, Canceled}
use Rattle.queue_types.specs.declared.job.Why.{Why}
use Rattle.queue_types.specs.declared.job.Why.TheVariants.{ByUser, ByOperator}
use Rattle.queue_types.specs.declared.event.Scene.{Scene}
use Rattle.queue_laws.specs.Doing.{HasOwn, IsDone, entry_at}
use Rattle.queue_laws.specs.Jobs.{Waits, IsAtDevice, HasEnded}
use Rattle.queue_laws.specs.Operating.{HasOthers}
use Rattle.queue_laws.specs.Steps.{not_possible}
use Rattle.queue_laws.proofs.OneDone.{by, row_at, done_by, is_waiting, few_waiting}
use Rattle.queue_laws.proofs.OneJob.{any_job, seen_any}

-- the caller may cancel the job of number n, which is e, and this is the cause
pub record MayCancel (w : World) (n : ℕ) (caller : List ℕ) (e : Entry) (why : Why) : Type 0 where
  pub there : entry_at n w.jobs ≡ Some e
  pub may : (bytes_eq e.row.owner caller || is_operator w.settings.operators caller) ≡ true
  pub by_whom : cause caller e.row ≡ why

pub own_may : (w : World) (n : ℕ) (caller : List ℕ) (e : Entry) → HasOwn caller n e w → MayCancel w n caller e ByUser
own_may w n caller e own = record {
  there = own.there;
  may = ap (λ b. b || is_operator w.settings.operators caller) own.owned;
  by_whom = ap (λ b. cond b ByUser ByOperator) own.owned;
}

pub others_may : (w : World) (n : ℕ) (caller : List ℕ) (e : Entry) → HasOthers caller n e w → MayCancel w n caller e ByOperator
others_may w n caller e others = record {
  there = others.there;
  may = or_right (bytes_eq e.row.owner caller) (is_operator w.settings.operators caller) others.operator;
  by_whom = ap (λ b. cond b ByUser ByOperator) others.others;
}

module _ (w : World) (now n : ℕ) (caller : List ℕ) (e : Entry) (why : Why) (may : MayCancel w n caller e why) where
  abbrev scene : Scene
  scene = cut w now (ask caller (cancel_job n))

  -- what the row of the table is in a phase
  abbrev cancel_in : Phase → Decision
  cancel_in p = cond (is_cancelable_in p e.row) (becomes scene (canceled_in why p now e.row)) (refused 0x0404)

  cancel_step : step w now (ask caller (cancel_job n)) ≡ by w (cancel_in e.row.phase)
  cancel_step =
      let row : Job → Decision = λ j. cancel_row scene now (cause caller j) j in
      ap (by w) (seen_any w.settings.operators caller row (numbered n (rows w))
      ∙ any_job (is_operator w.settings.operators caller) caller (rows w) row n e.row (row_at n w.jobs e may.there) true may.may
      ∙ ap (λ y. cancel_row scene now y e.row) may.by_whom)

  abbrev ended : Job
  ended = record e.row { phase = Canceled why; hold = false; incoming = false; ended = Some now }

  abbrev stopped : Job
  stopped = record e.row { stopping = Some why }

  pub waiting_step : Waits e.row → step w now (ask caller (cancel_job n)) ≡ by w (becomes scene ended)
  waiting_step low = cancel_step ∙ ap (λ p. by w (cancel_in p)) (is_waiting e.row low)

  pub is_canceled : Waits e.row → IsDone n e ended (step w now (ask caller (cancel_job n)))
  is_canceled low = done_by w n scene e ended may.there refl (waiting_step low)

  abbrev by_mark : Option Why → Decision
  by_mark stopping = cond (is_none stopping) (becomes scene stopped) (refused 0x0404)

  pub begun_step : IsAtDevice e.row → (o : Option Why) → e.row.stopping ≡ o → step w now (ask caller (cancel_job n)) ≡ by w (by_mark o)
  begun_step at o is = cancel_step
      ∙ elim e.row.phase as (λ p. 5 ≤ state_in p e.row.hold e.row.incoming → state_in p e.row.hold e.row.incoming ≤ 6 → by w (cancel_in p) ≡ by w (by_mark e.row.stopping)) [
        | Waiting ↦ λ high low. let few = few_waiting e.row.hold e.row.incoming in absurd (omega arith)
        | Running ↦ λ high low. refl
        | Stopped ↦ λ high low. refl
        | _ ↦ λ high low. absurd (omega arith)
      ] at.0 at.1
      ∙ ap (λ o. by w (by_mark o)) is

  pub is_stopping : IsAtDevice e.row → e.row.stopping ≡ None → IsDone n e stopped (step w now (ask caller (cancel_job n)))
  is_stopping at mark = done_by w n scene e stopped may.there refl (begun_step at None mark)

  pub again_refused : (before : Why) → IsAtDevice e.row → e.row.stopping ≡ Some before → step w now (ask caller (cancel_job n)) ≡ not_possible w
  again_refused before at mark = begun_step at (Some before) mark

  pub ended_refused : HasEnded e.row → step w now (ask caller (cancel_job n)) ≡ not_possible w
  ended_refused high = cancel_step
      ∙ elim e.row.phase as (λ p. 7 ≤ state_in p e.row.hold e.row.incoming → by w (cancel_in p) ≡ not_possible w) [
        | Waiting ↦ λ high. let few = few_waiting e.row.hold e.row.incoming in absurd (omega arith)
        | Running ↦ λ high. absurd (omega arith)
        | Stopped ↦ λ high. absurd (omega arith)
        | _ ↦ λ high. refl
      ] high
