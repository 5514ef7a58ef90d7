-- What requests leave, where a crash may come at any moment.
use Rattle.std.specs.Prelude.{◌≡◌, ◌⊎◌, true, ℕ, List, [], ◌∷◌, Some, Result, Ok, Err}
use Rattle.queue_types.specs.Event.{Event}
use Rattle.queue_core.specs.Crash.{CarriesBy, IsLeftOr}
use Rattle.queue_core.specs.Machine.{step}
use Rattle.queue_core.specs.World.{World}
use Rattle.http_head.specs.declared.target.Target.{Target}
use Rattle.http_front.specs.Places.{AsksFor}
use Rattle.http_front.specs.Turns.{Turn, plan}
use Rattle.http_front.specs.declared.outcome.Replied.{Replied}
use Rattle.http_front.specs.declared.outcome.Replied.TheVariants.{Answered, Declined}
use Rattle.http_front.specs.declared.outcome.Stopped.{Stopped}

-- the event that a whole request asks for; one that is declined asks for none
abbrev pub AsksUnlessDeclined : Target → List ℕ → Result Replied Stopped → Event → Type 0
AsksUnlessDeclined target content (Ok (Answered tally)) e = AsksFor target content (Some e)
AsksUnlessDeclined target content (Ok (Declined refusal)) e = ⊥
AsksUnlessDeclined target content (Err stopped) e = AsksFor target content (Some e)

-- a fault answers it, also where writing the answer was broken off; one that is declined leaves nothing open
abbrev pub FailsUnlessDeclined : Result Replied Stopped → Type 0
FailsUnlessDeclined (Ok (Answered tally)) = tally.is_fault ≡ true
FailsUnlessDeclined (Ok (Declined refusal)) = ⊥
FailsUnlessDeclined (Err stopped) = stopped.tally.is_fault ≡ true

-- ---- the requests of a connection

-- the request asks for this event
abbrev pub AsksIn : Turn → Event → Type 0
AsksIn t e = AsksFor (plan t).target t.content (Some e)

-- one of these requests, which made u of the queue w, asks for it; and that one was answered by a fault, and the queue was u before it already
abbrev pub IsAskedIn : World → List Turn → World → Event → Type 0
IsAskedIn w [] u e = ⊥
IsAskedIn w (t ∷ ts) u e = (AsksIn t e × (t.is_fault ≡ true) × (u ≡ w)) ⊎ IsAskedIn t.after ts u e

-- x is the queue u, or what the event makes of it that one of these requests asked for, which was answered by a fault
abbrev pub IsAtMostOneMore : ℕ → World → List Turn → World → World → Type 0
IsAtMostOneMore now w turns u x = (x ≡ u) ⊎ ((e : Event) × IsAskedIn w turns u e × (x ≡ (step u now e).world))

-- behind these requests, which made u of the queue w, a crash leaves x: where nothing was done v, which it left before; or u, or what the event of one
-- of them, which was answered by a fault, makes of u
abbrev pub IsLeft : ℕ → List Turn → World → World → World → World → Type 0
IsLeft now turns w v u x = IsLeftOr (IsAtMostOneMore now w turns u) w v u x

-- what a crash leaves beside w, before these requests, comes to what it leaves beside u, after them
abbrev pub CarriesAll : (World → World → Type 0) → (World → World → Type 0) → ℕ → List Turn → World → World → Type 0
CarriesAll before after now turns w u = CarriesBy before after (λ v x. IsLeft now turns w v u x) w u
