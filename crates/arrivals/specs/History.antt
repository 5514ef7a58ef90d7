-- A list of what reaches a queue, and what comes of all of it: the promise of the whole server.
use Rattle.std.specs.Prelude.{◌≡◌, ◌+◌, ℕ, List, [], ◌∷◌, ◌++◌, take}
use Rattle.std.specs.List.{AllByRecursion}
use Rattle.queue_core.specs.Runs.{Place, IsPlace, MovesAlong, run}
use Rattle.queue_core.specs.Sound.{Balances, IsSound}
use Rattle.queue_core.specs.World.{World}
use Rattle.arrivals.specs.Taken.{Takes}
use Rattle.arrivals.specs.declared.arrival.Arrival.{Arrival}
use Rattle.arrivals.specs.declared.arrival.Outcome.{Outcome}

-- each came to its outcome in the world that the one before it left; the bytes that were written, and the places, are theirs in their order
abbrev pub AreTaken : World → List Arrival → List Outcome → List ℕ → List Place → World → Type 0
AreTaken w [] [] written ps u = (written ≡ []) × (ps ≡ []) × (u ≡ w)
AreTaken w [] (o ∷ os) written ps u = ⊥
AreTaken w (a ∷ later) [] written ps u = ⊥
AreTaken w (a ∷ later) (o ∷ os) written ps u =
    (first : List ℕ) × (rest : List ℕ) × (qs : List Place) × (rs : List Place) × (v : World)
    × (written ≡ first ++ rest) × (ps ≡ qs ++ rs) × Takes a.moment w a.what o first qs v × AreTaken v later os rest rs u

-- From the world w, what arrived came to these outcomes, with these bytes written, and u is the world after it.
pub record History (w : World) (arrivals : List Arrival) (outcomes : List Outcome) (written : List ℕ) (u : World) : Type 0 where
  -- the machine's answers, to the events of these places
  pub places : List Place
  pub taken : AreTaken w arrivals outcomes written places u
  pub are : AllByRecursion IsPlace places
  -- the queue is the machine's after them
  pub run_is : u ≡ run w places
  -- at each place every job keeps its state or takes an allowed pair (RFC 8011, section 5.3.7), and none vanishes
  pub moves : (k : ℕ) → MovesAlong (run w (take k places)) (run w (take (k + 1) places))
  -- before and after each of them, in every account the pages granted are those that are free, reserved and printed
  pub balances : (k : ℕ) → Balances (run w (take k places))
  -- and the queue is sound: its accounts are those that have a grant, and all keep their limits
  pub sound : (k : ℕ) → IsSound (run w (take k places))
