-- What a book is asked to make.
use Rattle.std.specs.Prelude.{◌≡◌, ℕ}
use Rattle.queue_types.specs.Event.{Event, Decision}
use Rattle.queue_core.specs.World.{World, cut}
use Rattle.queue_core.specs.Machine.{decision}
use Rattle.queue_core.specs.Limits.{IsMoment, IsEvent}

-- the decision is the machine's on this world, for some moment and event within the limits
pub record IsDecisionOn (w : World) (d : Decision) : Type 0 where
  pub now : ℕ
  pub event : Event
  pub moment : IsMoment now
  pub limits : IsEvent event
  pub is : d ≡ decision (cut w now event) now event
