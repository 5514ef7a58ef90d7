-- What a query is left as whose rows are sent, and what was written of them.
use Rattle.std.specs.Prelude.{◌≡◌, ℕ, false, List, [], Option, Result, IfErr, IsTrue, OnErr, OnOk}
use Rattle.sqlite.specs.Given.{HasGiven, IsPlain}
use Rattle.sqlite.specs.Held.{Held, state}
use Rattle.sqlite.specs.Listing.{understood}
use Rattle.sqlite.specs.Order.{Row}
use Rattle.sqlite.specs.State.{State, HasCleanDisk, IsUnchanged, Survives}
use Rattle.sqlite_trees.specs.declared.store.Store.{Ghosts}
use Rattle.queue_tables.specs.declared.fault.Fault.TheVariants.{Damaged}
use Rattle.queue_shown.specs.Sent.{FindsNoBlob, HasBook, HasSent, HasSentFront, HasWritten, LeavesRows, pieces_select}
use Rattle.queue_shown.specs.declared.send.Stop.{Stop}
use Rattle.queue_shown.specs.declared.send.Stop.TheVariants.{Tables, Write}

-- The rows of a query that stood before its first, over a connection that was open. An Ok leaves the tables as they were, and so does a writer that fails; no transaction has
-- begun, and a crash leaves nothing but what it left before. As many bytes were written as were counted, whatever the rows and the disk give.
pub record SendsRows {S T : Type 0} (g : Ghosts S) (old new : Held S) (result : Result T Stop) (before after : Option (List ℕ)) (written : ℕ) : Type 0 where
  pub survives : Survives (state g old) (state g new) (λ _. ⊥)
  pub mode : old.in_transaction ≡ false → new.in_transaction ≡ false
  pub same : HasCleanDisk (state g new) → IsTrue (state g old).is_open → OnOk result (IsUnchanged (state g old) (state g new))
  pub writer_failed : HasCleanDisk (state g new) → IsTrue (state g old).is_open → IfErr result (λ stop. stop ≡ Write → IsUnchanged (state g old) (state g new))
  pub left : HasCleanDisk (state g new) → IsTrue (state g old).is_open → LeavesRows (state g old) (state g new)
  pub sent : HasCleanDisk (state g new) → IsTrue (state g old).is_open → (params : Row) → IsPlain (understood (state g old).now.schema pieces_select) → HasGiven g pieces_select params old [] → OnOk result (HasSent params (state g old) before after written)
  pub front : HasCleanDisk (state g new) → IsTrue (state g old).is_open → (params : Row) → HasGiven g pieces_select params old [] → OnErr result (HasSentFront params (state g old) before after written)
  pub damaged : HasCleanDisk (state g new) → IsTrue (state g old).is_open → (params : Row) → HasGiven g pieces_select params old [] → IfErr result (λ stop. stop ≡ Tables Damaged → FindsNoBlob params (state g old))
  pub counted : HasWritten before after written

-- The query and its rows. Damaged is told only where a row shows no bytes, on a connection that was open.
pub record SendsPieces {T : Type 0} (old new : State) (result : Result T Stop) (params : Row) (before after : Option (List ℕ)) (written : ℕ) : Type 0 where
  pub survives : Survives old new (λ _. ⊥)
  pub mode : old.in_transaction ≡ false → new.in_transaction ≡ false
  pub live : HasCleanDisk new → OnOk result (IsTrue new.is_open)
  pub writer_failed : HasCleanDisk new → IfErr result (λ stop. stop ≡ Write → IsTrue new.is_open)
  pub left : HasCleanDisk new → LeavesRows old new
  pub sent : HasBook old → HasCleanDisk new → OnOk result (HasSent params old before after written)
  pub front : HasBook old → HasCleanDisk new → OnErr result (HasSentFront params old before after written)
  pub damaged : HasBook old → HasCleanDisk new → IfErr result (λ stop. stop ≡ Tables Damaged → FindsNoBlob params old)
  pub was_open : HasCleanDisk new → IfErr result (λ stop. stop ≡ Tables Damaged → IsTrue old.is_open)
  pub counted : HasWritten before after written
