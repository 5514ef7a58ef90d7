-- Rows of a query that are read one at a time.
use Rattle.std.specs.Prelude.{◌≡◌, ℕ, false, List, [], ◌∷◌, ◌++◌, Option, Some, None, Result, IfOk, IfErr, IsTrue, OnOk, Vec}
use Rattle.sqlite.specs.Given.{HasGiven, IsPlain}
use Rattle.sqlite.specs.Held.{Held, state}
use Rattle.sqlite.specs.Listing.{understood}
use Rattle.sqlite.specs.Order.{Row}
use Rattle.sqlite.specs.State.{HasCleanDisk, IsUnchanged, Shown, Survives}
use Rattle.sqlite_trees.specs.declared.store.Store.{Ghosts}
use Rattle.queue_tables.specs.Reads.{LeavesRows}
use Rattle.queue_tables.specs.declared.fault.Fault.{Fault}
use Rattle.queue_tables.specs.declared.fault.Fault.TheVariants.{Damaged}
use Rattle.queue_load.specs.Reads.{FindsFormless, HasRead}

-- a value tells of one more row, or the rows so far are the whole answer
abbrev pub GivesValue : {S T : Type 0} → Ghosts S → (T → Row → Type 0) → List ℕ → Held S → Held S → List Row → Option T → Type 0
GivesValue g tells sql old new given (Some t) = (row : Row) × HasGiven g sql [] new (given ++ row ∷ []) × tells t row
GivesValue g tells sql old new given None = Shown sql [] (state g old) (state g new) given

-- The next row of a query, as a value. An Ok leaves the tables as they were, an error may leave them as the last commit did; no transaction has begun, and a crash
-- leaves nothing but what it left before.
pub record ReadsNext {S T : Type 0} (g : Ghosts S) (old new : Held S) (result : Result (Option T) Fault) (tells : T → Row → Type 0) (is_formless : Row → Type 0) : Type 0 where
  pub survives : Survives (state g old) (state g new) (λ _. ⊥)
  pub mode : old.in_transaction ≡ false → new.in_transaction ≡ false
  pub same : HasCleanDisk (state g new) → OnOk result (IsUnchanged (state g old) (state g new))
  pub left : HasCleanDisk (state g new) → LeavesRows (state g old) (state g new)
  pub read : HasCleanDisk (state g new) → IfOk result (λ value. (sql : List ℕ) (given : List Row) → HasGiven g sql [] old given → GivesValue g tells sql old new given value)
  pub formless : HasCleanDisk (state g new) → IfErr result (λ e. e ≡ Damaged → (sql : List ℕ) (given : List Row) → HasGiven g sql [] old given → FindsFormless is_formless sql (state g old))

-- All rows of a query that stood before its first, over a connection that was open. It leaves what the reading of one row does.
pub record ReadsRows {S T Z : Type 0} (g : Ghosts S) (old new : Held S) (result : Result (Vec T Z) Fault) (tells : T → Row → Type 0) (is_formless : Row → Type 0) : Type 0 where
  pub survives : Survives (state g old) (state g new) (λ _. ⊥)
  pub mode : old.in_transaction ≡ false → new.in_transaction ≡ false
  pub same : HasCleanDisk (state g new) → IsTrue (state g old).is_open → OnOk result (IsUnchanged (state g old) (state g new))
  pub left : HasCleanDisk (state g new) → IsTrue (state g old).is_open → LeavesRows (state g old) (state g new)
  pub read : HasCleanDisk (state g new) → IsTrue (state g old).is_open → (sql : List ℕ) → IsPlain (understood (state g old).now.schema sql) → HasGiven g sql [] old [] → IfOk result (λ v. HasRead tells sql (state g old) v.items)
  pub formless : HasCleanDisk (state g new) → IsTrue (state g old).is_open → (sql : List ℕ) → HasGiven g sql [] old [] → IfErr result (λ e. e ≡ Damaged → FindsFormless is_formless sql (state g old))
