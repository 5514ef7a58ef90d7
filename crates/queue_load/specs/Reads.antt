-- What a read of a whole table finds and leaves.
use Rattle.std.specs.Prelude.{◌≡◌, ⊤, ℕ, List, [], ◌∷◌, ◌++◌, Result, IfOk, IfErr, OnOk}
use Rattle.sqlite.specs.Order.{Row}
use Rattle.sqlite.specs.State.{State, Begins, HasCleanDisk, IsUnchanged}
use Rattle.sqlite.specs.Effect.{Database}
use Rattle.sqlite.specs.Given.{IsPlain}
use Rattle.sqlite.specs.Listing.{understood}
use Rattle.queue_tables.specs.Leaving.{LeavesTables}
use Rattle.queue_tables.specs.declared.fault.Fault.{Fault}
use Rattle.queue_tables.specs.declared.fault.Fault.TheVariants.{Damaged}
use Rattle.queue_rows.specs.Versions.{Version}
use Rattle.queue_tables.specs.Tables.{schema_of}
pub use Rattle.queue_tables.specs.Reads.{Answers, LeavesRows}

-- the tables are those of one of the versions, as far as the disk was honest
abbrev pub HasBook : State → Type 0
HasBook s = HasCleanDisk s → (n : Version) × (s.now.schema ≡ schema_of n)

-- the text means a query of the tables
abbrev pub IsUnderstood : List ℕ → State → Type 0
IsUnderstood sql s = HasCleanDisk s → IsPlain (understood s.now.schema sql)

-- each of the items tells of the row at its place
abbrev pub Tell : {T : Type 0} → (T → Row → Type 0) → List T → List Row → Type 0
Tell tells [] [] = ⊤
Tell tells [] (r ∷ rs) = ⊥
Tell tells (t ∷ ts) [] = ⊥
Tell tells (t ∷ ts) (r ∷ rs) = tells t r × Tell tells ts rs

-- the items tell of all rows of the answer, in its order
pub record HasRead {T : Type 0} (tells : T → Row → Type 0) (sql : List ℕ) (s : State) (items : List T) : Type 0 where
  pub rows : List Row
  pub all : Answers sql [] s rows
  pub told : Tell tells items rows

-- a formless row is in the answer
pub record FindsFormless (is_formless : Row → Type 0) (sql : List ℕ) (s : State) : Type 0 where
  pub before : List Row
  pub row : Row
  pub there : Begins sql [] s (before ++ row ∷ [])
  pub formless : is_formless row

-- the tables stay as they were, and after an Ok so does the connection; where they are those of a book, an Ok tells the truth of their rows, and Damaged is
-- told only where these have not their form
pub record ReadsTable {T : Type 0} (old new : State) (result : Result T Fault) (IsRead : Database → T → Type 0) (HaveForm : Database → Type 0) : Type 0 where
  pub leaves : LeavesTables old new
  pub same : HasCleanDisk new → OnOk result (IsUnchanged old new)
  pub read : HasBook old → HasCleanDisk new → IfOk result (IsRead old.now)
  pub damaged : HasBook old → HasCleanDisk new → IfErr result (λ e. e ≡ Damaged → ¬ HaveForm old.now)
