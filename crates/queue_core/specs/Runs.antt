-- How states may move, and runs of many events.
use Rattle.std.specs.Prelude.{◌≡◌, ℕ, List, [], ◌∷◌, Option, Some, None, ⊤, ◌==◌, ◌&&◌, ◌⊎◌, Bool, IsTrue, IfSome}
use Rattle.std.specs.List.{list_any}
use Rattle.queue_types.specs.Job.{state}
use Rattle.queue_types.specs.Event.{Event}
use Rattle.queue_core.specs.World.{World, rows, job_at}
use Rattle.queue_core.specs.Machine.{step}
use Rattle.queue_core.specs.Limits.{IsMoment, IsEvent}
use Rattle.queue_types.specs.declared.job.Job.{Job}

-- the pairs of states along which a job may move (RFC 8011, section 5.3.7)
abbrev pub is_pair : ℕ → ℕ → Bool
is_pair a b = list_any (λ (p : ℕ × ℕ). p.0 == a && p.1 == b)
    ((3, 4) ∷ (3, 5) ∷ (3, 7) ∷ (4, 3) ∷ (4, 7) ∷ (4, 8) ∷ (5, 6) ∷ (5, 7) ∷ (5, 8) ∷ (5, 9) ∷ (6, 5) ∷ (6, 7) ∷ (6, 8) ∷ [])

-- a new job enters in state 3 or 4; a job keeps its state or takes a pair; no job vanishes
abbrev pub Follows : Option Job → Option Job → Type 0
Follows None None = ⊤
Follows None (Some new) = (state new ≡ 3) ⊎ (state new ≡ 4)
Follows (Some old) None = ⊥
Follows (Some old) (Some new) = (state new ≡ state old) ⊎ IsTrue (is_pair (state old) (state new))

-- the jobs of each number
abbrev pub MovesAlong : World → World → Type 0
MovesAlong old new = (n : ℕ) → Follows (job_at n (rows old)) (job_at n (rows new))

-- a moment and an event, or nothing
pub record Place : Type 0 where
  pub now : ℕ
  pub event : Option Event

abbrev pub IsPlace : Place → Type 0
IsPlace p = IsMoment p.now × IfSome p.event IsEvent

abbrev pub after : World → ℕ → Option Event → World
after w now None = w
after w now (Some e) = (step w now e).world

abbrev pub run : World → List Place → World
run w [] = w
run w (p ∷ ps) = run (after w p.now p.event) ps
