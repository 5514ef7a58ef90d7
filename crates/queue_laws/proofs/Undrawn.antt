-- What asks no new job draws no number.
use Rattle.std.proofs.Common.{◌≡◌, ℕ, List, refl, ap, false}
use Rattle.std.specs.Prelude.{None, unwrap_or}
use Rattle.queue_types.specs.Event.{Call, Decision, ask}
use Rattle.queue_core.specs.Machine.{step, call_row}
use Rattle.queue_core.specs.World.{World, cut}
use Rattle.queue_types.specs.declared.event.Scene.{Scene}
use Rattle.queue_core.proofs.Forms.{HasForm, prints, creates, call_form}
use Rattle.queue_laws.specs.Calls.{draws_number}

form_draws_none : (s : Scene) (now : ℕ) (caller : List ℕ) (call : Call) (d : Decision) → HasForm s now caller call d → draws_number call ≡ false → d.change.next ≡ None
form_draws_none s now caller _ _ (prints new format payload room) draws = absurd (cc)
form_draws_none s now caller _ _ (creates new room) draws = absurd (cc)
form_draws_none s now caller _ _ _ draws = refl

pub next_kept : (w : World) (now : ℕ) (caller : List ℕ) (call : Call) → draws_number call ≡ false → (step w now (ask caller call)).world.next ≡ w.next
next_kept w now caller call draws =
    let s : Scene = cut w now (ask caller call) in
    ap (λ o. unwrap_or o w.next) (form_draws_none s now caller call (call_row s now caller call) (call_form s now caller call) draws)
