-- What a store is loaded from.
use Rattle.std.specs.Prelude.{◌≡◌, ◌⊎◌, ◌&&◌, ℕ, Bool, is_some, IsTrue, All, List, Option, None, Some, codes}
use Rattle.sqlite.specs.Effect.{Database}
use Rattle.sqlite.specs.Schema.{Schema}
use Rattle.sqlite.specs.State.{State, HasCleanDisk}
use Rattle.sqlite.specs.Tree.{Trees}
use Rattle.sqlite_schema.specs.Names.{table_named}
use Rattle.queue_rows.specs.Rows.{Tables}
use Rattle.queue_tables.specs.Forms.{IsFormedJob}
use Rattle.queue_rows.specs.Versions.{Version, first_version, second_version, third_version}
use Rattle.queue_rows.specs.declared.rows.PolicyRow.{PolicyRow}
use Rattle.queue_tables.specs.Tables.{schema_of}
use Rattle.queue_tables.specs.Values.{meta_values, meta_view, operator_values, operator_view, policy_values, policy_view, job_values, kept_job_view, document_values, document_view, piece_view, account_view, grant_values, grant_view, report_values, report_view}
use Rattle.queue_load.specs.Loaded.{AreFormedRows, ArePieces, IsBare, IsFormedWhole, IsTable, whole_piece}
use Rattle.queue_load.specs.Tells.{account_row_values, IsFormedMeta, IsFormedOperator, IsFormedPolicy, IsFormedDocument, IsFormedAccount, IsFormedGrant, IsFormedReport}

-- the tables that each version has
abbrev pub has_all : Schema → Bool
has_all s =
    is_some (table_named s (codes "meta")) && is_some (table_named s (codes "jobs")) && is_some (table_named s (codes "documents")) && is_some (table_named s (codes "pieces"))
    && is_some (table_named s (codes "accounts")) && is_some (table_named s (codes "grants")) && is_some (table_named s (codes "reports"))

abbrev pub has_policy : Schema → Bool
has_policy s = is_some (table_named s (codes "policy"))

abbrev pub has_operators : Schema → Bool
has_operators s = is_some (table_named s (codes "operators"))

-- it is that of a version with the table policy
abbrev pub IsWithPolicy : Schema → Type 0
IsWithPolicy s = (s ≡ schema_of second_version) ⊎ (s ≡ schema_of third_version)

-- of the one with the table operators
abbrev pub IsWithOperators : Schema → Type 0
IsWithOperators s = s ≡ schema_of third_version

-- one of these tables is missing, or all are as one of the versions has them
abbrev pub FitsBook : Schema → Type 0
FitsBook s = IsTrue (has_all s) → (n : Version) × (s ≡ schema_of n)

-- the premise on a connection: its tables are those of one of the versions, or one is missing
abbrev pub FitsIn : State → Type 0
FitsIn s = HasCleanDisk s → FitsBook s.now.schema

-- ---- typed rows that are the tables, in the order of their keys

pub record AreJobTables (t : Tables) (db : Trees) : Type 0 where
  pub meta : IsTable meta_values meta_view 1 t.meta (db 0)
  pub jobs : IsTable job_values kept_job_view 1 t.jobs (db 1)
  pub bare : All IsBare t.jobs
  pub documents : IsTable document_values document_view 2 t.documents (db 2)
  pub pieces : ArePieces t.pieces (db 4)

-- the first version has no table policy, the others have it
abbrev pub ArePolicyRows : Option (List PolicyRow) → Database → Type 0
ArePolicyRows None d = d.schema ≡ schema_of first_version
ArePolicyRows (Some ps) d = IsWithPolicy d.schema × IsTable policy_values policy_view 1 ps (d.trees 15)

-- the first two have no table operators
abbrev pub AreOperatorRows : Option (List (List ℕ)) → Database → Type 0
AreOperatorRows None d = (d.schema ≡ schema_of first_version) ⊎ (d.schema ≡ schema_of second_version)
AreOperatorRows (Some names) d = IsWithOperators d.schema × IsTable operator_values operator_view 1 names (d.trees 17)

pub record AreAccountTables (t : Tables) (d : Database) : Type 0 where
  pub accounts : IsTable account_row_values account_view 1 t.accounts (d.trees 6)
  pub grants : IsTable grant_values grant_view 2 t.grants (d.trees 8)
  pub reports : IsTable report_values report_view 2 t.reports (d.trees 10)
  pub policy : ArePolicyRows t.policy d
  pub operators : AreOperatorRows t.operators d

pub record AreTables (t : Tables) (d : Database) : Type 0 where
  pub tables : IsTrue (has_all d.schema)
  pub first : AreJobTables t d.trees
  pub second : AreAccountTables t d

-- ---- tables whose rows have their forms

pub record HasJobTables (db : Trees) : Type 0 where
  pub meta : AreFormedRows IsFormedMeta meta_values meta_view (db 0)
  pub jobs : AreFormedRows IsFormedJob job_values kept_job_view (db 1)
  pub documents : AreFormedRows IsFormedDocument document_values document_view (db 2)
  pub pieces : AreFormedRows IsFormedWhole whole_piece piece_view (db 4)

abbrev pub HasPolicyForm : Database → Type 0
HasPolicyForm d = IsWithPolicy d.schema → AreFormedRows IsFormedPolicy policy_values policy_view (d.trees 15)

abbrev pub HasOperatorForm : Database → Type 0
HasOperatorForm d = IsWithOperators d.schema → AreFormedRows IsFormedOperator operator_values operator_view (d.trees 17)

pub record HasAccountTables (d : Database) : Type 0 where
  pub accounts : AreFormedRows IsFormedAccount account_row_values account_view (d.trees 6)
  pub grants : AreFormedRows IsFormedGrant grant_values grant_view (d.trees 8)
  pub reports : AreFormedRows IsFormedReport report_values report_view (d.trees 10)
  pub policy : HasPolicyForm d
  pub operators : HasOperatorForm d

-- all tables are there, and their rows have their forms
pub record IsLoadable (d : Database) : Type 0 where
  pub tables : IsTrue (has_all d.schema)
  pub first : HasJobTables d.trees
  pub second : HasAccountTables d
