-- When a constraint refuses a statement of a transaction, and when that is told as Damaged.
use Rattle.std.specs.Prelude.{◌≡◌, ◌≢◌, ℕ, List, Result, Err, IfErr, IsTrue}
use Rattle.sqlite.specs.Order.{Row}
use Rattle.sqlite.specs.State.{State, ExecutesInside, HasCleanDisk}
use Rattle.sqlite.specs.declared.error.Error.TheVariants.{SqliteFailure}
use Rattle.sqlite.specs.declared.error.ErrorCode.TheVariants.{ConstraintViolation}
use Rattle.sqlite_schema.specs.declared.schema.Constraint.{Constraint}
use Rattle.sqlite_schema.specs.declared.schema.Constraint.TheVariants.{PrimaryKey}
use Rattle.queue_tables.specs.declared.fault.Fault.{Fault}
use Rattle.queue_tables.specs.declared.fault.Fault.TheVariants.{Damaged}

-- a constraint refused it
pub record IsRefused (sql : List ℕ) (params : Row) (old new : State) : Type 0 where
  pub rule : Constraint
  pub refused : ExecutesInside 0 sql params old new (Err (SqliteFailure (ConstraintViolation rule)))

-- one refused it that is not on the rowid
pub record IsRefusedByKey (sql : List ℕ) (params : Row) (old new : State) : Type 0 where
  pub rule : Constraint
  pub not_rowid : rule ≢ PrimaryKey
  pub refused : ExecutesInside 0 sql params old new (Err (SqliteFailure (ConstraintViolation rule)))

-- none refuses it, so that no answer is Damaged
abbrev pub IsRefusedByNothing : List ℕ → Row → State → State → Type 0
IsRefusedByNothing sql params old new = ⊥

-- inside a transaction Damaged is told only where this holds; it says nothing once the disk has lied
abbrev pub DamagedOnlyWhere : {T : Type 0} → State → State → Result T Fault → Type 0 → Type 0
DamagedOnlyWhere old new result P = HasCleanDisk new → IsTrue old.in_transaction → IfErr result (λ e. e ≡ Damaged → P)
