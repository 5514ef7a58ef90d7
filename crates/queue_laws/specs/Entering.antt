-- What a new job is as it enters.
use Rattle.std.specs.Prelude.{◌≡◌, ℕ, ◌+◌, List, [], ◌∷◌, ◌++◌, Bool, true, unwrap_or}
use Rattle.std.specs.FinMap.{get}
use Rattle.queue_types.specs.Event.{NewJob}
use Rattle.queue_types.specs.Job.{state}
use Rattle.queue_core.specs.Machine.{Step}
use Rattle.queue_core.specs.World.{World, Entry}
use Rattle.queue_types.specs.declared.document.Document.{Document}
use Rattle.queue_types.specs.declared.document.Format.{Format}
use Rattle.queue_types.specs.declared.event.Reply.TheVariants.{Jobs}

-- a payload is one document, and an empty one is none
abbrev pub documents_of : Format → List ℕ → List Document
documents_of format [] = []
documents_of format (b ∷ bytes) = record { format = format; bytes = b ∷ bytes } ∷ []

-- by this step the new job of the caller enters, open for more documents or not, with its first ones
pub record Enters (w : World) (now : ℕ) (caller : List ℕ) (new : NewJob) (open_for_more : Bool) (first : List Document) (s : Step) : Type 0 where
  pub entry : Entry
  -- behind all others, under the next number
  pub last : s.world.jobs ≡ w.jobs ++ entry ∷ []
  pub number : entry.row.number ≡ w.next
  pub next : s.world.next ≡ w.next + 1
  pub owner : entry.row.owner ≡ caller
  -- held, in state 4
  pub held : entry.row.hold ≡ true
  pub state : state entry.row ≡ 4
  pub incoming : entry.row.incoming ≡ open_for_more
  pub documents : entry.documents ≡ first
  pub name : entry.row.name ≡ new.name
  pub copies : entry.row.copies ≡ new.copies
  -- as the caller says, or by the settings
  pub impressions : entry.row.impressions ≡ unwrap_or new.impressions w.settings.estimate
  pub created : entry.row.created ≡ now
  -- nothing is printed yet, and nothing set aside
  pub count : entry.row.count ≡ 0
  pub accounts : (a : List ℕ) → get s.world.free a ≡ get w.free a
  -- the caller is told of it
  pub reply : s.reply ≡ Jobs (entry.row ∷ [])
