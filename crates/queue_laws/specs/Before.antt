-- What was accepted before in a run.
use Rattle.std.specs.Prelude.{◌≡◌, ◌↔◌, ℕ, List, ◌∷◌, ◌++◌, true, false}
use Rattle.queue_types.specs.Event.{Event, grant}
use Rattle.queue_core.specs.Runs.{Place, run}
use Rattle.queue_core.specs.World.{World}
use Rattle.queue_types.specs.declared.event.GrantRow.{GrantRow}
use Rattle.queue_laws.specs.Alike.{place_of}
use Rattle.queue_laws.specs.Replies.{refuses}
use Rattle.queue_laws.specs.Steps.{answer}
use Rattle.queue_laws.specs.Thin.{has_row}

-- the event came at one of the places of the run from w, and was not refused
pub record WasAccepted (w : World) (ps : List Place) (e : Event) : Type 0 where
  pub front : List Place
  pub now : ℕ
  pub back : List Place
  pub is : ps ≡ front ++ place_of now e ∷ back
  pub accepted : refuses (answer (run w front) now e) ≡ false

-- an account file with that row came so
pub record WasGranted (w : World) (ps : List Place) (g : GrantRow) : Type 0 where
  pub before : List GrantRow
  pub behind : List GrantRow
  pub file : WasAccepted w ps (grant (before ++ g ∷ behind))

-- left has the rows of the file that were not granted before, and no others
abbrev pub HasNewRows : World → List Place → List GrantRow → List GrantRow → Type 0
HasNewRows w ps file left = (g : GrantRow) → (has_row g left ≡ true) ↔ ((has_row g file ≡ true) × (WasGranted w ps g → ⊥))
