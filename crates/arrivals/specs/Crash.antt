-- What a crash leaves of a book, at whatever moment it comes.
use Rattle.std.specs.Prelude.{◌≡◌, ◌⊎◌, true, ℕ, List, [], ◌∷◌, ◌++◌, Some, Result, Ok, Err, Vec}
use Rattle.queue_types.specs.Event.{Event, expire}
use Rattle.queue_core.specs.Crash.{CarriesBy, IsLeftOr}
use Rattle.queue_core.specs.Machine.{step}
use Rattle.queue_core.specs.Runs.{Place, IsPlace}
use Rattle.queue_core.specs.World.{World}
use Rattle.device_lines.specs.Reports.{Tells, is_fault_line}
use Rattle.grants_csv.specs.Fault.{fault}
use Rattle.grants_csv.specs.Import.{Asks}
use Rattle.http_front.specs.Connections.{Answers, Breaks}
use Rattle.http_front.specs.Crash.{IsAskedIn}
use Rattle.arrivals.specs.Taken.{Takes}
use Rattle.arrivals.specs.declared.arrival.Arrival.{Arrival}
use Rattle.arrivals.specs.declared.arrival.Arrived.{Arrived}
use Rattle.arrivals.specs.declared.arrival.Arrived.TheVariants.{Connection, Line, AccountFile, Sweep}
use Rattle.arrivals.specs.declared.arrival.Outcome.{Outcome}
use Rattle.arrivals.specs.declared.arrival.Outcome.TheVariants.{Served, Broken, Told, Refused, Unswept}

-- ---- what is asked for and told as a fault, where the queue was u before it already

-- What reached the queue w at this moment, and came to this outcome, asks for the event, and a fault was told of it: of a line, of a file, of a sweep, or of one of the
-- requests of a connection that were answered one after another, with the one whose answer was broken off.
abbrev pub AsksFor : ℕ → Arrived → Outcome → World → World → Event → Type 0
AsksFor now (Connection stream) (Served s) w u e =
    (written : List ℕ) × (after : World) × (a : Answers now w stream.now written after s.acted s.faults s.end) × IsAskedIn w a.turns u e
AsksFor now (Connection stream) (Broken f) w u e =
    (written : List ℕ) × (after : World) × (b : Breaks now w stream.now written after f.acted f.faults) × IsAskedIn w (b.turns ++ b.broken) u e
AsksFor now (Line line) (Told out) w u e = Tells line.now (Some e) × (is_fault_line out ≡ true) × (u ≡ w)
AsksFor now (AccountFile file) (Refused f) w u e = Asks file.now (Some e) × (f ≡ fault) × (u ≡ w)
AsksFor now Sweep (Unswept f) w u e = (e ≡ expire) × (u ≡ w)
AsksFor now _ _ w u e = ⊥

-- it does so at its own moment
abbrev pub AsksAt : ℕ → Arrived → Outcome → World → World → ℕ → Event → Type 0
AsksAt moment what o w u now e = (now ≡ moment) × AsksFor moment what o w u e

-- one of the arrivals, which came to these outcomes, asks for the event at this moment, and a fault was told of it, in the queue to which those before it
-- brought w
abbrev pub IsAskedBy : List Arrival → List Outcome → World → World → ℕ → Event → Type 0
IsAskedBy [] os w u now e = ⊥
IsAskedBy (a ∷ later) [] w u now e = ⊥
IsAskedBy (a ∷ later) (o ∷ os) w u now e =
    AsksAt a.moment a.what o w u now e
    ⊎ ((v : World) × (written : List ℕ) × (places : List Place) × Takes a.moment w a.what o written places v × IsAskedBy later os v u now e)

-- what came of the arrivals; after an error none was taken
abbrev pub outcomes_of : {Z E : Type 0} → Result (Vec Outcome Z) E → List Outcome
outcomes_of (Ok outcomes) = outcomes.items
outcomes_of (Err e) = []

-- ---- what is left

-- x is the queue u, or what one event more makes of it, within the limits, which was asked for at its moment
abbrev pub IsAtMostOneMore : (ℕ → Event → Type 0) → World → World → Type 0
IsAtMostOneMore is_asked u x =
    (x ≡ u) ⊎ ((now : ℕ) × (e : Event) × is_asked now e × IsPlace (record { now = now; event = Some e }) × (x ≡ (step u now e).world))

-- behind some arrivals, which made u of the queue w: nothing was done, and a crash leaves what it left before; or it leaves u, or what one event
-- more makes of u
abbrev pub IsLeft : (ℕ → Event → Type 0) → World → World → World → World → Type 0
IsLeft is_asked w v u x = IsLeftOr (IsAtMostOneMore is_asked u) w v u x

-- what a crash leaves beside the queue w, before some arrivals, comes to what it leaves beside u, after them
abbrev pub Carries : (World → World → Type 0) → (World → World → Type 0) → (World → World → ℕ → Event → Type 0) → World → World → Type 0
Carries before after is_asked w u = CarriesBy before after (λ v x. IsLeft (is_asked w u) w v u x) w u
