-- What a function of a transaction makes of the rows in the tables, and what a transaction of its own leaves.
use Rattle.std.specs.Prelude.{◌≡◌, ℕ, List, Result, Ok, OnOk, OnErr, IfErr, IsTrue}
use Rattle.sqlite.specs.Order.{Row}
use Rattle.sqlite.specs.State.{State, HasCleanDisk, ExecutesInside}
use Rattle.queue_core.specs.World.{World}
use Rattle.queue_tables.specs.Content.{Content, Holds, HoldsWhileOpen, LeavesOneOf, content_of}
use Rattle.queue_tables.specs.Leaving.{KeepsServing, StaysInside}
use Rattle.queue_tables.specs.Refusing.{DamagedOnlyWhere}
use Rattle.queue_tables.specs.declared.fault.Fault.{Fault}
use Rattle.queue_tables.specs.declared.fault.Fault.TheVariants.{Damaged}

-- a statement that writes: an Ok has run it, and Damaged is told only where it was refused so
pub record Writes {T : Type 0} (sql : List ℕ) (params : Row) (old new : State) (result : Result T Fault) (IsRefusedSo : List ℕ → Row → State → State → Type 0) : Type 0 where
  pub stays : StaysInside old new result
  pub ran : HasCleanDisk new → OnOk result ((count : ℕ) × ExecutesInside 0 sql params old new (Ok count))
  pub damaged : DamagedOnlyWhere old new result (IsRefusedSo sql params old new)

-- for each x of which it can be made: where the tables held its rows before, they hold its rows after once the answer is Ok; and Damaged is
-- told only where the connection was open and they did not hold its rows before
pub record Makes {A T : Type 0} (old new : State) (result : Result T Fault) (Can : A → Type 0) (before after : A → Content) : Type 0 where
  pub stays : StaysInside old new result
  pub done : HasCleanDisk new → OnOk result ((x : A) → Can x → Holds (before x) old → Holds (after x) new)
  pub damaged : DamagedOnlyWhere old new result ((x : A) → Can x → ¬ HoldsWhileOpen (before x) old)

-- of the rows that the tables hold it makes these
abbrev pub MakesRows : {T : Type 0} → State → State → Result T Fault → (Content → Type 0) → (Content → Content) → Type 0
MakesRows old new result Can make = Makes old new result Can (λ c. c) make

-- of the queue that the tables hold it makes this one
abbrev pub MakesQueue : {T : Type 0} → State → State → Result T Fault → (World → Type 0) → (World → World) → Type 0
MakesQueue old new result Can make = Makes old new result Can content_of (λ w. content_of (make w))

-- In a transaction of its own, on a disk that returned what was written. Of each queue in the tables of which it can be made, an Ok has made
-- what is to be made, and committed it. After an error the tables hold what they held, and committed if it was, while the connection is open;
-- Damaged is told of no such queue that open tables hold. Whatever the answer, where what they held was committed, a crash leaves such a
-- queue, or what was to be made of it.
pub record CommitsQueue {T : Type 0} (old new : State) (result : Result T Fault) (Can : World → Type 0) (make : World → World) : Type 0 where
  pub clean : HasCleanDisk new → HasCleanDisk old
  pub opened : HasCleanDisk new → IsTrue new.is_open → IsTrue old.is_open
  pub live : HasCleanDisk new → OnOk result (IsTrue new.is_open)
  pub made : HasCleanDisk new → OnOk result ((w : World) → Can w → Holds (content_of w) old → Holds (content_of (make w)) new)
  pub refused : HasCleanDisk new → OnErr result ((w : World) → Holds (content_of w) old → IsTrue new.is_open → Holds (content_of w) new)
  pub settled : HasCleanDisk new → OnOk result (new.now ≡ new.committed)
  pub still_settled : HasCleanDisk new → OnErr result (old.now ≡ old.committed → IsTrue new.is_open → new.now ≡ new.committed)
  pub crash : HasCleanDisk new → (w : World) → Can w → Holds (content_of w) old → old.now ≡ old.committed → LeavesOneOf w (make w) new
  pub damaged : HasCleanDisk new → IfErr result (λ e. e ≡ Damaged → (w : World) → Can w → ¬ HoldsWhileOpen (content_of w) old)
  pub serves : KeepsServing old new
