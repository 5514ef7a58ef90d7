-- What a query, or a statement of a transaction, leaves as it was.
use Rattle.std.specs.Prelude.{◌≡◌, ◌⊎◌, ◌≤◌, IsTrue, OnOk, Result}
use Rattle.sqlite.specs.State.{State, HasCleanDisk}
use Rattle.sqlite.specs.Tree.{Trees}
use Rattle.sqlite_disk.specs.Disk.{MoreFaults}

-- the step limit is as it was, no fault of the disk is forgotten, and nothing but a fault shuts the connection
pub record KeepsServing (old new : State) : Type 0 where
  pub limit : new.step_limit ≡ old.step_limit
  pub counts : old.faults ≤ new.faults
  pub closes : HasCleanDisk new → IsTrue old.is_open → IsTrue new.is_open ⊎ MoreFaults old.faults new.faults

-- a connection that is open was open, shows what it showed, and has committed nothing; open or not, a crash leaves nothing but what
-- it left before. No transaction was begun or ended. Once the disk has lied, it says no more than that, and of the step limit and the faults
pub record LeavesTables (old new : State) : Type 0 where
  pub clean : HasCleanDisk new → HasCleanDisk old
  pub opened : HasCleanDisk new → IsTrue new.is_open → IsTrue old.is_open
  pub same : HasCleanDisk new → IsTrue new.is_open → new.now ≡ old.now
  pub committed : HasCleanDisk new → IsTrue new.is_open → new.committed ≡ old.committed
  pub left : HasCleanDisk new → (db : Trees) → new.may_leave db → old.may_leave db
  pub mode : new.in_transaction ≡ old.in_transaction
  pub serves : KeepsServing old new

-- nothing was committed, and a crash leaves nothing but what it left before
pub record KeepsBehind (old new : State) : Type 0 where
  pub was_open : IsTrue new.is_open → IsTrue old.is_open
  pub committed : IsTrue new.is_open → new.committed ≡ old.committed
  pub left : (db : Trees) → new.may_leave db → old.may_leave db

-- what a function leaves of a transaction, whatever it answers: nothing was committed, and a crash leaves nothing but what it left before; after
-- an Ok the transaction goes on. Once the disk has lied, it says no more than of the step limit and the faults
pub record StaysInside {T E : Type 0} (old new : State) (result : Result T E) : Type 0 where
  pub clean : HasCleanDisk new → HasCleanDisk old
  pub kept : HasCleanDisk new → IsTrue old.in_transaction → KeepsBehind old new
  pub inside : HasCleanDisk new → OnOk result (IsTrue old.in_transaction → IsTrue new.in_transaction)
  pub serves : KeepsServing old new
