-- What reaches a book of the queue, what comes of it, and what a crash leaves of the book.
use Rattle.std.specs.Prelude.{◌≡◌, ℕ, List, [], Option, Result, Ok, Err, Vec}
use Rattle.std.specs.List.{AllByRecursion}
use Rattle.std.specs.Io.KnownBytes.{Appends}
use Rattle.queue_types.specs.Event.{Event}
use Rattle.queue_core.specs.Runs.{Place, IsPlace, run}
use Rattle.queue_core.specs.World.{World}
use Rattle.queue_core.specs.declared.book.QueueBook.{Ghosts}
use Rattle.arrivals.specs.Crash.{AsksAt, Carries, IsAskedBy, IsAtMostOneMore}
use Rattle.arrivals.specs.History.{AreTaken, History}
use Rattle.arrivals.specs.Taken.{IsTaken, Takes}
use Rattle.arrivals.specs.declared.arrival.Arrival.{Arrival}
use Rattle.arrivals.specs.declared.arrival.Arrived.{Arrived}
use Rattle.arrivals.specs.declared.arrival.Outcome.{Outcome}

-- a book that was old before, and is new behind; it stood for the queue w, and the writer's bytes went from before to after
module _ {B : Type 0} (book : Ghosts B) (old new : B) (w : World) where
  -- one thing reached it at this moment and came to this outcome
  abbrev pub IsTakenOver : ℕ → Arrived → Outcome → (before after : Option (List ℕ)) → Type 0
  IsTakenOver now what outcome before after =
      IsTaken (book.stands new) (Carries (book.crash_leaves old) (book.crash_leaves new) (AsksAt now what outcome) w) w before after (Takes now w what outcome)

  -- these reached it, one after another, and came to these outcomes: the promise of the whole
  pub record HistoryOver (arrivals : List Arrival) (outcomes : List Outcome) (before after : Option (List ℕ)) : Type 0 where
    -- the queue for which the book stands now
    pub queue : World
    pub stands : book.stands new queue
    -- what was written
    pub written : List ℕ
    pub appended : Appends before after written
    -- both are the machine's
    pub history : History w arrivals outcomes written queue
    -- what a crash leaves beside the queue goes with just these arrivals, also where the book was shut before
    pub carries : Carries (book.crash_leaves old) (book.crash_leaves new) (IsAskedBy arrivals outcomes) w queue

-- the arrivals came to these outcomes at these places, and u is the queue after them; after an error none was taken
abbrev pub CameTo : {Z E : Type 0} → World → List Arrival → Result (Vec Outcome Z) E → List Place → World → Type 0
CameTo w arrivals (Ok outcomes) places u = (written : List ℕ) × AreTaken w arrivals outcomes.items written places u
CameTo w arrivals (Err e) places u = (places ≡ []) × (u ≡ w)

-- What a crash at any moment leaves of a book that stood for the queue w before the arrivals, and is new after them: the queue that they made of w, or that
-- queue after one event more. One of them asked for that event at its moment and was told a fault of it, and the queue before it was the same already.
pub record LeavesAtMostOneMore {B : Type 0} (book : Ghosts B) (new : B) (w : World) (came_to : List Place → World → Type 0) (is_asked : World → ℕ → Event → Type 0) : Type 0 where
  -- the queue for which the book stands now, and the places of the machine's run to it, which are the arrivals'
  pub queue : World
  pub stands : book.stands new queue
  pub places : List Place
  pub came : came_to places queue
  pub are : AllByRecursion IsPlace places
  pub run_is : queue ≡ run w places
  -- what is left
  pub left : World
  pub leaves : book.crash_leaves new queue left
  pub one_more : IsAtMostOneMore (is_asked queue) queue left
