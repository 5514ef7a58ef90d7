-- What a making of a new book's tables leaves.
use Rattle.std.specs.Prelude.{◌≡◌, false, OnErr, OnOk, Result}
use Rattle.sqlite.specs.State.{State, HasCleanDisk}
use Rattle.queue_core.specs.Sound.{IsSound}
use Rattle.queue_core.specs.World.{World}
use Rattle.queue_store.specs.New.{KeepsTables, LeavesOldOrNew}
use Rattle.queue_tables.specs.Content.{Holds, content_of}

-- In a transaction of its own, where the store had no tables: an Ok has made this queue's, and committed them; an error leaves what was there.
-- Whatever the answer, a crash leaves what it might have left before, or this queue.
pub record MakesTables {T E : Type 0} (w : World) (old new : State) (result : Result T E) : Type 0 where
  pub clean : HasCleanDisk new → HasCleanDisk old
  pub made : HasCleanDisk new → OnOk result (Holds (content_of w) new)
  pub settled : HasCleanDisk new → OnOk result (new.now ≡ new.committed)
  pub ended : OnOk result (new.in_transaction ≡ false)
  pub refused : OnErr result (KeepsTables old new)
  pub crash : IsSound w → LeavesOldOrNew w old new
