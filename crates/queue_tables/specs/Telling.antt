-- What a call that only reads tells of the queue in the tables.
use Rattle.std.specs.Prelude.{◌≡◌, Result, IfOk, IfErr, IsTrue, OnOk}
use Rattle.sqlite.specs.State.{State, HasCleanDisk}
use Rattle.queue_core.specs.Sound.{IsSound}
use Rattle.queue_core.specs.World.{World}
use Rattle.queue_tables.specs.Content.{HoldNoQueue, Holds, HoldsWhileOpen, content_of}
use Rattle.queue_tables.specs.Leaving.{LeavesTables, StaysInside}
use Rattle.queue_tables.specs.Refusing.{DamagedOnlyWhere}
use Rattle.queue_tables.specs.declared.fault.Fault.{Fault}
use Rattle.queue_tables.specs.declared.fault.Fault.TheVariants.{Damaged}

-- the tables stay as they were, while the connection is open; an Ok tells the truth of each sound queue that they held, and Damaged is told only
-- over an open connection whose tables hold none
pub record ReadsQueue {T : Type 0} (old new : State) (result : Result T Fault) (IsTold : World → T → Type 0) : Type 0 where
  pub leaves : LeavesTables old new
  pub found : HasCleanDisk new → IfOk result (λ x. (w : World) → IsSound w → Holds (content_of w) old → IsTold w x)
  pub damaged : HasCleanDisk new → IfErr result (λ e. e ≡ Damaged → HoldNoQueue old)

-- inside a transaction: an Ok, over an open connection, tells the truth of each queue that can be read and that the tables hold, and they hold it
-- still; of each queue that can be read, Damaged is told only where the connection was open and the tables did not hold it
pub record ReadsQueueInside {T : Type 0} (old new : State) (result : Result T Fault) (Can : World → Type 0) (IsTold : World → T → Type 0) : Type 0 where
  pub stays : StaysInside old new result
  pub live : HasCleanDisk new → OnOk result (IsTrue new.is_open)
  pub found : HasCleanDisk new → IfOk result (λ x. (w : World) → Can w → Holds (content_of w) old → IsTold w x × Holds (content_of w) new)
  pub damaged : DamagedOnlyWhere old new result ((w : World) → Can w → ¬ HoldsWhileOpen (content_of w) old)
