-- What a sweep does to the queue.
use Rattle.std.specs.Prelude.{◌≡◌, ℕ, Result, Ok, Err}
use Rattle.queue_types.specs.Event.{expire}
use Rattle.queue_types.specs.declared.event.Reply.TheVariants.{Expired}
use Rattle.queue_core.specs.Machine.{step}
use Rattle.queue_core.specs.World.{World}

-- n jobs of the queue w expire at this moment, and u is the queue after the sweep; an error leaves the queue as it was
abbrev pub Sweeps : {E : Type 0} → World → ℕ → World → Result ℕ E → Type 0
Sweeps w now u (Ok n) = ((step w now expire).reply ≡ Expired n) × (u ≡ (step w now expire).world)
Sweeps w now u (Err e) = u ≡ w
