-- What Hold-Job makes of a job.
use Rattle.std.proofs.Common.{◌≡◌, ℕ, ◌≤◌, List, refl, ap, ◌∙◌, arith, true}
use Rattle.queue_types.specs.Event.{ask, hold_job}
use Rattle.queue_types.specs.Job.{state, state_in}
use Rattle.queue_core.specs.World.{World, Entry, cut}
use Rattle.queue_core.specs.Machine.{step, becomes, hold_in}
use Rattle.queue_types.specs.declared.job.Phase.TheVariants.{Waiting}
use Rattle.queue_types.specs.declared.event.Scene.{Scene}
use Rattle.queue_laws.specs.Doing.{HasOwn, IsDone}
use Rattle.queue_laws.specs.Jobs.{Waits}
use Rattle.queue_laws.specs.Steps.{not_possible}
use Rattle.queue_laws.proofs.OneDone.{by, own_step, done_by, is_waiting, few_waiting}

module _ (w : World) (now n : ℕ) (caller : List ℕ) (e : Entry) (own : HasOwn caller n e w) where
  abbrev hold_scene : Scene
  hold_scene = cut w now (ask caller (hold_job n))

  hold_step : step w now (ask caller (hold_job n)) ≡ by w (hold_in e.row.phase hold_scene e.row)
  hold_step = ap (by w) (own_step w n caller (λ j. hold_in j.phase hold_scene j) e own)

  pub waiting_step : Waits e.row → step w now (ask caller (hold_job n)) ≡ by w (becomes hold_scene (record e.row { hold = true }))
  waiting_step low = hold_step ∙ ap (λ p. by w (hold_in p hold_scene e.row)) (is_waiting e.row low)

  pub is_held : Waits e.row → IsDone n e (record e.row { hold = true }) (step w now (ask caller (hold_job n)))
  is_held low = done_by w n hold_scene e (record e.row { hold = true }) own.there refl (waiting_step low)

  pub hold_refused : 5 ≤ state e.row → step w now (ask caller (hold_job n)) ≡ not_possible w
  hold_refused high = hold_step
      ∙ elim e.row.phase as (λ p. 5 ≤ state_in p e.row.hold e.row.incoming → by w (hold_in p hold_scene e.row) ≡ not_possible w) [
        | Waiting ↦ λ high. let low = few_waiting e.row.hold e.row.incoming in absurd (omega arith)
        | _ ↦ λ high. refl
      ] high
