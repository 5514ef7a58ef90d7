-- The schema as it grows, and tables that were made and are empty.
use Rattle.std.specs.Prelude.{◌≡◌, []}
use Rattle.sqlite.specs.Change.{created}
use Rattle.std.specs.List.{AllByRecursion as Each}
use Rattle.sqlite.specs.Schema.{Schema}
use Rattle.sqlite.specs.Table.{Table}
use Rattle.sqlite.specs.State.{State}
use Rattle.sqlite_catalog.specs.Change.{indexed}
use Rattle.queue_tables.specs.Plain.{table_of}
use Rattle.queue_tables.specs.Tables.{meta, jobs, documents, pieces, accounts, grants, reports, by_owner, by_end, by_phase, policy, by_age, operators, by_ended, no_schema}

abbrev pub schema1 : Schema
schema1 = created no_schema (record (table_of meta) { tree = 0 })

abbrev pub schema2 : Schema
schema2 = created schema1 (record (table_of jobs) { tree = 0 })

abbrev pub schema3 : Schema
schema3 = created schema2 (record (table_of documents) { tree = 0 })

abbrev pub schema4 : Schema
schema4 = created schema3 (record (table_of pieces) { tree = 0 })

abbrev pub schema5 : Schema
schema5 = created schema4 (record (table_of accounts) { tree = 0 })

abbrev pub schema6 : Schema
schema6 = created schema5 (record (table_of grants) { tree = 0 })

abbrev pub schema7 : Schema
schema7 = created schema6 (record (table_of reports) { tree = 0 })

abbrev pub schema8 : Schema
schema8 = indexed schema7 (table_of jobs) (record by_owner { tree = 0 })

abbrev pub schema9 : Schema
schema9 = indexed schema8 (table_of jobs) (record by_end { tree = 0 })

abbrev pub schema10 : Schema
schema10 = indexed schema9 (table_of jobs) (record by_phase { tree = 0 })

abbrev pub schema11 : Schema
schema11 = created schema10 (record (table_of policy) { tree = 0 })

abbrev pub schema12 : Schema
schema12 = indexed schema11 (table_of jobs) (record by_age { tree = 0 })

abbrev pub schema13 : Schema
schema13 = created schema12 (record (table_of operators) { tree = 0 })

abbrev pub schema14 : Schema
schema14 = indexed schema13 (table_of jobs) (record by_ended { tree = 0 })

-- the tables are those of the schema, and have no rows
pub record IsMade (schema : Schema) (s : State) : Type 0 where
  pub schema_is : s.now.schema ≡ schema
  pub empty : Each (λ (t : Table). s.now.trees t.tree ≡ []) schema.tables
