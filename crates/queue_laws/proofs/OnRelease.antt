-- What Release-Job makes of a job.
use Rattle.std.proofs.Common.{◌≡◌, ℕ, ℤ, pos, ◌≤◌, List, refl, ap, ◌∙◌, arith, Bool, true, false, cond}
use Rattle.std.specs.Prelude.{Option, Some, None, int_le, ◌≤ℤ◌, ◌<ℤ◌}
use Rattle.std.specs.FinMap.{get}
use Rattle.std.proofs.lemmas.Int.{ints}
use Rattle.queue_types.specs.Event.{ask, release_job}
use Rattle.queue_types.specs.Job.{state_in, estimate}
use Rattle.queue_core.specs.World.{World, Entry, cut, found_row}
use Rattle.queue_core.specs.Machine.{step, becomes, refused, answered, has_pages, let_print, release_in}
use Rattle.queue_types.specs.declared.job.Phase.TheVariants.{Waiting, Running, Stopped}
use Rattle.queue_types.specs.declared.event.Reply.TheVariants.{Done}
use Rattle.queue_types.specs.declared.event.Scene.{Scene}
use Rattle.queue_laws.specs.Doing.{HasOwn, HasHeld, IsDone}
use Rattle.queue_laws.specs.Jobs.{Waits, IsAtDevice, HasEnded}
use Rattle.queue_laws.specs.Steps.{unchanged, not_possible}
use Rattle.queue_laws.proofs.OneDone.{by, own_step, done_by, is_waiting, few_waiting}

at_least : (a b : ℤ) → a ≤ℤ b → int_le a b ≡ true
at_least a b h = grind (arith, ints)

too_few : (a b : ℤ) → b <ℤ a → int_le a b ≡ false
too_few a b h = grind (arith, ints)

module _ (w : World) (now n : ℕ) (caller : List ℕ) (e : Entry) where
  abbrev scene : Scene
  scene = cut w now (ask caller (release_job n))

  release_step : HasOwn caller n e w → step w now (ask caller (release_job n)) ≡ by w (release_in e.row.phase scene e.row)
  release_step own = ap (by w) (own_step w n caller (λ j. release_in j.phase scene j) e own)

  waiting_step : HasOwn caller n e w → Waits e.row → (b : Bool) → e.row.hold ≡ b → step w now (ask caller (release_job n)) ≡ by w (cond b (let_print scene e.row) (answered Done))
  waiting_step own low b is = release_step own ∙ ap (λ p. by w (release_in p scene e.row)) (is_waiting e.row low) ∙ ap (λ b. by w (cond b (let_print scene e.row) (answered Done))) is

  -- ---- what is held

  has_them : (o : Option ℤ) → get w.free caller ≡ o → has_pages scene.free (estimate e.row) ≡ has_pages (found_row caller o) (estimate e.row)
  has_them o is = ap (λ o. has_pages (found_row caller o) (estimate e.row)) is

  held_step : HasHeld caller n e w → (b : Bool) → has_pages scene.free (estimate e.row) ≡ b → step w now (ask caller (release_job n)) ≡ by w (cond b (becomes scene (record e.row { hold = false })) (refused 0x0404))
  held_step is b has = waiting_step is.own is.waits true is.held ∙ ap (λ b. by w (cond b (becomes scene (record e.row { hold = false })) (refused 0x0404))) has

  module _ (free : ℤ) (is : HasHeld caller n e w) (account : get w.free caller ≡ Some free) where
    pub enough_step : pos (estimate e.row) ≤ℤ free → step w now (ask caller (release_job n)) ≡ by w (becomes scene (record e.row { hold = false }))
    enough_step enough = held_step is true (has_them (Some free) account ∙ at_least (pos (estimate e.row)) free enough)

    pub is_released : pos (estimate e.row) ≤ℤ free → IsDone n e (record e.row { hold = false }) (step w now (ask caller (release_job n)))
    is_released enough = done_by w n scene e (record e.row { hold = false }) is.own.there refl (enough_step enough)

    pub fewer_refused : free <ℤ pos (estimate e.row) → step w now (ask caller (release_job n)) ≡ not_possible w
    fewer_refused fewer = held_step is false (has_them (Some free) account ∙ too_few (pos (estimate e.row)) free fewer)

  pub none_refused : HasHeld caller n e w → get w.free caller ≡ None → step w now (ask caller (release_job n)) ≡ not_possible w
  none_refused is none = held_step is false (has_them None none)

  -- ---- what is not held

  pub free_to_print : HasOwn caller n e w → Waits e.row → e.row.hold ≡ false → step w now (ask caller (release_job n)) ≡ unchanged w Done
  free_to_print own low held = waiting_step own low false held

  pub begun_released : HasOwn caller n e w → IsAtDevice e.row → step w now (ask caller (release_job n)) ≡ unchanged w Done
  begun_released own at = release_step own
      ∙ elim e.row.phase as (λ p. 5 ≤ state_in p e.row.hold e.row.incoming → state_in p e.row.hold e.row.incoming ≤ 6 → by w (release_in p scene e.row) ≡ unchanged w Done) [
        | Waiting ↦ λ high low. let few = few_waiting e.row.hold e.row.incoming in absurd (omega arith)
        | Running ↦ λ high low. refl
        | Stopped ↦ λ high low. refl
        | _ ↦ λ high low. absurd (omega arith)
      ] at.0 at.1

  pub ended_refused : HasOwn caller n e w → HasEnded e.row → step w now (ask caller (release_job n)) ≡ not_possible w
  ended_refused own high = release_step own
      ∙ elim e.row.phase as (λ p. 7 ≤ state_in p e.row.hold e.row.incoming → by w (release_in p scene e.row) ≡ not_possible w) [
        | Waiting ↦ λ high. let few = few_waiting e.row.hold e.row.incoming in absurd (omega arith)
        | Running ↦ λ high. absurd (omega arith)
        | Stopped ↦ λ high. absurd (omega arith)
        | _ ↦ λ high. refl
      ] high
