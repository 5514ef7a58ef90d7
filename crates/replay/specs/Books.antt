-- What lines make of a book, and what is written.
use Rattle.std.specs.Prelude.{◌≡◌, ℕ, List, Option}
use Rattle.std.specs.Io.KnownBytes.{Appends}
use Rattle.queue_core.specs.World.{World}
use Rattle.queue_core.specs.declared.book.QueueBook.{Ghosts}
use Rattle.queue_types.specs.Settings.{SettingValues}
use Rattle.replay.specs.Replay.{Replays}
use Rattle.replay.specs.Session.{State}

-- a book that was old before, and is new behind, and a writer before and after
module _ {B W : Type 0} (book : Ghosts B) (contents : W → Option (List ℕ)) (old new : B) (before after : W) where
  -- of the queue w, for which the book stood, it made u, for which it stands now, and this text was written: so it is of them
  abbrev pub HasAnswer : (World → World → List ℕ → Type 0) → World → Type 0
  HasAnswer so w = (u : World) × (text : List ℕ) × so w u text × book.stands new u × Appends (contents before) (contents after) text

  -- so it is of each queue for which the book stood
  abbrev pub AnswersEach : (World → World → List ℕ → Type 0) → Type 0
  AnswersEach so = (w : World) → book.stands old w → HasAnswer so w

  -- or of each with these settings
  abbrev pub AnswersEachWith : SettingValues → (World → World → List ℕ → Type 0) → Type 0
  AnswersEachWith settings so = (w : World) → book.stands old w → settings ≡ w.settings → HasAnswer so w

-- a replay of the input ended with this status, at a queue for which the book stands now, and the text that answers it was written
abbrev pub HasReplayed : (input : Option (List ℕ)) → State → ℕ → (World → Type 0) → (before after : Option (List ℕ)) → Type 0
HasReplayed input begin status stands before after =
    (last : State) × (text : List ℕ) × Replays input begin status text last × stands last.queue × Appends before after text
