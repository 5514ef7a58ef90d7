-- What runs keep.
use Rattle.std.proofs.Common.{◌≡◌, List, [], ◌∷◌, ◌++◌, refl, sym, subst, ℕ}
use Rattle.std.specs.Prelude.{Option, Some, None, IfSome}
use Rattle.std.specs.List.{AllByRecursion as Each}
use Rattle.queue_types.specs.Event.{Event}
use Rattle.queue_core.specs.World.{World}
use Rattle.queue_core.specs.Limits.{IsMoment, IsEvent}
use Rattle.queue_core.specs.Runs.{Place, IsPlace, after, run, MovesAlong}
use Rattle.queue_core.specs.Sound.{IsSound}
use Rattle.queue_core.proofs.Own.{Keeps, unchanged}
use Rattle.queue_core.proofs.Steps.{event_keeps}

pub run-append : (ps qs : List Place) (w : World) → run w (ps ++ qs) ≡ run (run w ps) qs
run-append [] qs w = refl
run-append (p ∷ ps) qs w = run-append ps qs (after w p.now p.event)

after_keeps : (w : World) (now : ℕ) (e : Option Event) → IsSound w → IsMoment now → IfSome e IsEvent → Keeps w (after w now e)
after_keeps w now None sound moment within = unchanged w sound
after_keeps w now (Some e) sound moment within = event_keeps w now e sound moment within

pub run_sound : (ps : List Place) (w : World) → IsSound w → Each IsPlace ps → IsSound (run w ps)
run_sound [] w sound places = sound
run_sound (p ∷ ps) w sound places = run_sound ps (after w p.now p.event) (after_keeps w p.now p.event sound places.0.0 places.0.1).sound places.1

pub run_moves : (ps : List Place) (p : Place) (w : World) → IsSound w → Each IsPlace ps → IsPlace p → MovesAlong (run w ps) (run w (ps ++ p ∷ []))
run_moves ps p w sound places place =
    subst (MovesAlong (run w ps)) (sym (run-append ps (p ∷ []) w)) (after_keeps (run w ps) p.now p.event (run_sound ps w sound places) place.0 place.1).moves
