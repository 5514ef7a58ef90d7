-- What a call makes of a book of a queue.
use Rattle.std.specs.Prelude.{◌≡◌}
use Rattle.queue_types.specs.Settings.{SettingValues}
use Rattle.queue_core.specs.World.{World}
use Rattle.queue_core.specs.declared.book.QueueBook.{Ghosts}

-- Where the book is honest now: from whichever queue w with these settings it stood for, it came to a queue u that it stands for now, and this is known
-- of the two.
abbrev pub ComesTo : {B : Type 0} → Ghosts B → B → B → SettingValues → (World → World → Type 0) → Type 0
ComesTo book old new settings Known =
    book.is_honest new → (w : World) → book.stands old w → settings ≡ w.settings → (u : World) × book.stands new u × Known w u
