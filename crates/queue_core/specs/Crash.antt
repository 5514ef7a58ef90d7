-- What is left of a book, where a crash may come at any moment.
use Rattle.std.specs.Prelude.{◌≡◌, ◌⊎◌, ℕ}
use Rattle.queue_types.specs.Event.{Event}
use Rattle.queue_core.specs.Machine.{step}
use Rattle.queue_core.specs.World.{World}

-- A crash before the call may leave w or v (before w v), and one after it u or x (after u x): for each such v there is such an x, tied to it by `left`.
abbrev pub CarriesBy : (before after : World → World → Type 0) (left : World → World → Type 0) → World → World → Type 0
CarriesBy before after left w u = (v : World) → before w v → (x : World) × after u x × left v x

-- the queue is as it was and a crash leaves what it left before, which is v; or what it leaves is what `more` says
abbrev pub IsLeftOr : (more : World → Type 0) → World → World → World → World → Type 0
IsLeftOr more w v u x = ((u ≡ w) × (x ≡ v)) ⊎ more x

-- ---- one request

-- From the queue w, beside which a crash leaves v, to the queue u, beside which it leaves x. The request did nothing; or its event was
-- taken, and a crash leaves just that; or taking it was broken off and a fault was told of it, which is what `failed` says, and a crash leaves the queue
-- from before it or the one after it.
pub data Leaves (asks : Event → Type 0) (failed : Type 0) (now : ℕ) (w v u x : World) : Type 0 where
  untaken : u ≡ w → x ≡ v → Leaves asks failed now w v u x
  taken : (e : Event) → asks e → u ≡ (step w now e).world → x ≡ u → Leaves asks failed now w v u x
  broken_off : (e : Event) → asks e → failed → u ≡ w → x ≡ (step w now e).world → Leaves asks failed now w v u x

-- before a request, and after it
abbrev pub Carries : (World → World → Type 0) → (World → World → Type 0) → (Event → Type 0) → (failed : Type 0) → ℕ → World → World → Type 0
Carries before after asks failed now w u = CarriesBy before after (λ v x. Leaves asks failed now w v u x) w u
