-- What a request leaves, where a crash may come at any moment.
use Rattle.std.proofs.Common.{◌≡◌, ℕ, Result, Ok, Err, refl, subst}
use Rattle.std.specs.Prelude.{OnErr, IsErr}
use Rattle.queue_types.specs.Event.{Decision, Event}
use Rattle.queue_core.specs.Crash.{Carries, Leaves, broken_off, taken, untaken}
use Rattle.queue_core.specs.Machine.{decision, step}
use Rattle.queue_core.specs.Sweep.{Sweeps}
use Rattle.queue_core.specs.World.{World, cut, made_on}

-- what a crash leaves beside a queue is left beside it behind an error
abbrev pub Stays : (World → Type 0) → (World → World → Type 0) → (World → World → Type 0) → (Event → Type 0) → (failed : Type 0) → ℕ → Type 0
Stays stands old new asks failed now = (w v : World) → stands w → old w v → (x : World) × new w x × Leaves asks failed now w v w x

pub on_err : {A E : Type 0} (r : Result A E) (stands : World → Type 0) (old new : World → World → Type 0) (asks : Event → Type 0) (failed : Type 0) (now : ℕ)
    → Stays stands old new asks failed now → OnErr r (Stays stands old new asks failed now)
on_err (Ok n) stands old new asks failed now h = tt
on_err (Err f) stands old new asks failed now h = h

-- where it failed, the change of the decision on the event may be left
pub broken : (new : World → Type 0) (failed : Type 0) (now : ℕ) (w v : World) (e : Event) (d : Decision) → failed → d ≡ decision (cut w now e) now e → new (made_on d.change w)
    → (x : World) × new x × Leaves (λ z. z ≡ e) failed now w v w x
broken new failed now w v e d told is left = ((step w now e).world, subst (λ (z : Decision). new (made_on z.change w)) is left, broken_off e refl told refl refl)

-- what is left for an event that is asked in one way, and fails in one way, is left for it where it is asked and fails in another
pub leaves_by : (asks by : Event → Type 0) (failed told : Type 0) (now : ℕ) (w v u x : World) → ((e : Event) → asks e → by e) → (failed → told)
    → Leaves asks failed now w v u x → Leaves by told now w v u x
leaves_by asks by failed told now w v u x h f (untaken p q) = untaken p q
leaves_by asks by failed told now w v u x h f (taken e a p q) = taken e (h e a) p q
leaves_by asks by failed told now w v u x h f (broken_off e a b p q) = broken_off e (h e a) (f b) p q

pub carries_by : (before after : World → World → Type 0) (asks by : Event → Type 0) (failed told : Type 0) (now : ℕ) (w u : World) → ((e : Event) → asks e → by e) → (failed → told)
    → Carries before after asks failed now w u → Carries before after by told now w u
carries_by before after asks by failed told now w u h f c = λ v was. let l = c v was in (l.0, l.1, leaves_by asks by failed told now w v u l.0 h f l.2)

-- an error ends no job
pub swept_none : {E : Type 0} (w : World) (now : ℕ) (r : Result ℕ E) → IsErr r → Sweeps w now w r
swept_none w now (Ok n) none = absurd (cc)
swept_none w now (Err e) none = refl
