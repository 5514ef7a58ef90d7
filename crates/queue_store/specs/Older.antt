-- Tables of whatever version, and the same queue in those of the newest.
use Rattle.std.specs.Prelude.{◌≡◌, ◌⊎◌, ◌&&◌, [], ◌∷◌, ◌++◌, Bool, IsTrue, List, None, Option, Some, codes, false, pos, ℕ}
use Rattle.std.specs.List.{AllByRecursion as Each}
use Rattle.sqlite.specs.Collation.TheVariants.{Binary}
use Rattle.sqlite.specs.Effect.{Database, IsDatabase}
use Rattle.sqlite.specs.Ops.{binary, is_true}
use Rattle.sqlite.specs.Order.{Row, column}
use Rattle.sqlite.specs.Schema.{Schema}
use Rattle.sqlite.specs.State.{State, HasCleanDisk}
use Rattle.sqlite.specs.declared.types.Value.TheVariants.{Int}
use Rattle.sqlite_sql.specs.declared.ops.BinaryOp.TheVariants.{Compare}
use Rattle.sqlite_sql.specs.declared.ops.CompareOp.TheVariants.{Eq}
use Rattle.sqlite_trees.specs.Tree.{Trees}
use Rattle.queue_types.specs.Settings.{SettingValues}
use Rattle.queue_core.specs.World.{World}
use Rattle.queue_rows.specs.Versions.{Version, first_version, second_version, third_version}
use Rattle.queue_rows.specs.declared.rows.PolicyRow.{PolicyRow}
use Rattle.queue_load.specs.Queues.{IsQueueIn}
use Rattle.queue_tables.specs.Content.{Content, HasFirst, HasQueueOf, HasSecond, HasThird, IsBookOf}
use Rattle.queue_tables.specs.Leaving.{LeavesTables}
use Rattle.queue_tables.specs.Tables.{book_schema, first_schema, key_of, operators, schema_of, second_schema}
use Rattle.queue_store.specs.Kept.{Keeps}
use Rattle.queue_store.specs.declared.version.SchemaVersion.{SchemaVersion}
use Rattle.queue_store.specs.declared.version.SchemaVersion.TheVariants.{First, Second, Third}

-- ---- versions

abbrev pub version_of : SchemaVersion → Version
version_of First = first_version
version_of Second = second_version
version_of Third = third_version

-- that of tables with these rows of policy and operators
abbrev pub version_in : Option (List PolicyRow) → Option (List (List ℕ)) → SchemaVersion
version_in None names = First
version_in (Some policies) None = Second
version_in (Some policies) (Some names) = Third

-- ---- causes

-- the columns why and stopping of a job that is stopping without its cause
abbrev pub lacks_cause : Row → Bool
lacks_cause r = is_true (binary (Compare Eq Binary) (column r 9) (Int (pos 0))) && is_true (binary (Compare Eq Binary) (column r 10) (Int (pos 1)))

-- no job lacks it
abbrev pub AreCaused : Database → Type 0
AreCaused d = Each (λ r. lacks_cause r ≡ false) (d.trees 1)

-- nor does a job of a queue that the tables hold; they may hold none
abbrev pub HaveCauses : Database → Type 0
HaveCauses d = (w : World) → IsQueueIn w d → AreCaused d

-- tables of the newest version in which each job that is stopping has its cause stay as they were
abbrev pub LeavesNewest : State → State → Type 0
LeavesNewest old new = old.now.schema ≡ book_schema → HaveCauses old.now → HasCleanDisk new → LeavesTables old new

-- ---- tables on the way to the newest

-- the connection is open, and its tables are those of the schema and have these rows
pub record HoldsAs (schema : Schema) (Has : Trees → Type 0) (s : State) : Type 0 where
  pub schema_is : s.now.schema ≡ schema
  pub sound : IsDatabase s.now
  pub rows : Has s.now.trees
  pub live : IsTrue s.is_open

abbrev pub HoldsQueueOf : Version → World → State → Type 0
HoldsQueueOf n w = HoldsAs (schema_of n) (HasQueueOf n w)

abbrev pub HoldsFirst : Content → State → Type 0
HoldsFirst c = HoldsAs first_schema (HasFirst c)

abbrev pub without_policy : Content → Content
without_policy c = record c { policy = [] }

-- the first version with the table policy, without the index by age
abbrev pub policy_schema : Schema
policy_schema = record { tables = second_schema.tables; indexes = first_schema.indexes; views = [] }

abbrev pub HoldsUnindexed : Content → State → Type 0
HoldsUnindexed c = HoldsAs policy_schema (HasSecond c)

abbrev pub HoldsSecond : Content → State → Type 0
HoldsSecond c = HoldsAs second_schema (HasSecond c)

-- the second version with the table operators, without the index by end
abbrev pub operators_schema : Schema
operators_schema = record { tables = book_schema.tables; indexes = second_schema.indexes ++ key_of operators (codes "sqlite_autoindex_operators_1") 18 (1 ∷ []) ∷ []; views = [] }

abbrev pub HoldsUnended : Content → State → Type 0
HoldsUnended c = HoldsAs operators_schema (HasThird c)

-- the newest, where jobs may lack their causes
abbrev pub HoldsThird : Content → State → Type 0
HoldsThird c = HoldsAs book_schema (HasThird c)

-- ---- what comes of them

-- the queue that the tables held is in the newest tables, of an open connection
pub record TakesQueue (old new : State) (settings : SettingValues) : Type 0 where
  pub world : World
  pub queue : IsQueueIn world old.now
  pub keeps : Keeps new settings world
  pub live : IsTrue new.is_open

-- each database that a crash may leave is one that it might have left before, or holds the queue that the tables held, in those of another version
abbrev pub LeavesOldOrTaken : State → State → Type 0
LeavesOldOrTaken old new = HasCleanDisk new → (db : Trees) → new.may_leave db → old.may_leave db ⊎ ((w : World) × IsQueueIn w old.now × IsBookOf w db)

-- the tables, which stay as they were and are committed, hold a queue of these settings, in tables of that version
pub record IsFound (old new : State) (settings : SettingValues) (version : SchemaVersion) : Type 0 where
  pub world : World
  pub queue : IsQueueIn world old.now
  pub settings_are : settings ≡ world.settings
  pub version_is : queue.version ≡ version_of version
  pub same : new.now ≡ old.now
  pub live : IsTrue new.is_open
  pub sound : IsDatabase new.now
  pub settled : new.now ≡ new.committed
  pub outside : new.in_transaction ≡ false
