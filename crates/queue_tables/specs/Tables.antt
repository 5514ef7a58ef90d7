-- The tables and indexes of the book, as schemas of the kit's. What a later version adds stands behind all that the earlier have, so that a store
-- that was taken to it has the trees of a new one.
use Rattle.sqlite.specs.Collation.TheVariants.{Binary}
use Rattle.std.specs.Prelude.{true, false, [], ◌∷◌, ◌++◌, Some, None, codes, List, ℕ, Bool, map}
use Rattle.sqlite.specs.declared.types.Value.TheVariants.{Null}
use Rattle.sqlite.specs.Schema.{Schema}
use Rattle.sqlite.specs.Kind.{Kind}
use Rattle.sqlite.specs.Kind.TheVariants.{Integer, Text, Blob}
use Rattle.sqlite_schema.specs.declared.schema.Column.{Column}
use Rattle.sqlite_schema.specs.declared.schema.Reference.{Reference}
use Rattle.sqlite_schema.specs.declared.schema.Action.TheVariants.{NoAction}
use Rattle.sqlite_schema.specs.declared.schema.Index.{Index}
use Rattle.sqlite_value.specs.Keys.{plain}
use Rattle.queue_rows.specs.Versions.{Version, first_version, second_version, third_version}
use Rattle.queue_tables.specs.Plain.{Plain, table_of}

-- a column of a STRICT table, compared by its bytes
abbrev pub strict : List ℕ → Kind → Bool → Column
strict name kind not_null = record { name = name; kind = kind; is_strict = true; not_null = not_null; default = Null; collation = Binary }

abbrev pub integer : List ℕ → Column
integer name = strict name Integer true

abbrev pub text : List ℕ → Column
text name = strict name Text true

-- a reference that sets off no action
abbrev pub refers : List ℕ → List ℕ → List (List ℕ) → Reference
refers columns parent parent_columns = record { columns = columns; parent = parent; parent_columns = parent_columns; on_delete = NoAction; on_update = NoAction; is_deferred = false }

-- ---- the tables

abbrev pub meta : Plain
meta = record {
  name = codes "meta";
  tree = 0;
  columns = strict (codes "one") Integer false ∷ integer (codes "schema") ∷ text (codes "uri") ∷ text (codes "name") ∷ integer (codes "estimate") ∷ integer (codes "epoch") ∷ integer (codes "next_number") ∷ [];
  key = Some 0;
  primary = 0 ∷ [];
  uniques = [];
  orders = [];
  references = [];
}

abbrev pub jobs : Plain
jobs = record {
  name = codes "jobs";
  tree = 1;
  columns = strict (codes "number") Integer false ∷ text (codes "owner") ∷ text (codes "name") ∷ integer (codes "copies") ∷ integer (codes "impressions") ∷ integer (codes "hold") ∷ integer (codes "incoming")
      ∷ integer (codes "phase") ∷ integer (codes "why") ∷ integer (codes "stopping") ∷ integer (codes "count") ∷ integer (codes "created") ∷ strict (codes "begun") Integer false ∷ strict (codes "ended") Integer false ∷ [];
  key = Some 0;
  primary = 0 ∷ [];
  uniques = [];
  orders = [];
  references = [];
}

abbrev pub documents : Plain
documents = record {
  name = codes "documents";
  tree = 2;
  columns = integer (codes "job") ∷ integer (codes "doc") ∷ text (codes "format") ∷ integer (codes "octets") ∷ [];
  key = None;
  primary = 1 ∷ 2 ∷ [];
  uniques = (1 ∷ 2 ∷ []) ∷ [];
  orders = plain ∷ [];
  references = refers (1 ∷ []) (codes "jobs") (codes "number" ∷ []) ∷ [];
}

abbrev pub pieces : Plain
pieces = record {
  name = codes "pieces";
  tree = 4;
  columns = integer (codes "job") ∷ integer (codes "doc") ∷ integer (codes "piece") ∷ strict (codes "bytes") Blob true ∷ [];
  key = None;
  primary = 1 ∷ 2 ∷ 3 ∷ [];
  uniques = (1 ∷ 2 ∷ 3 ∷ []) ∷ [];
  orders = plain ∷ [];
  references = refers (1 ∷ 2 ∷ []) (codes "documents") (codes "job" ∷ codes "doc" ∷ []) ∷ [];
}

abbrev pub accounts : Plain
accounts = record {
  name = codes "accounts";
  tree = 6;
  columns = text (codes "name") ∷ integer (codes "free") ∷ integer (codes "reserved") ∷ integer (codes "printed") ∷ [];
  key = None;
  primary = 1 ∷ [];
  uniques = (1 ∷ []) ∷ [];
  orders = plain ∷ [];
  references = [];
}

abbrev pub grants : Plain
grants = record {
  name = codes "grants";
  tree = 8;
  columns = text (codes "batch") ∷ text (codes "account") ∷ integer (codes "pages") ∷ [];
  key = None;
  primary = 1 ∷ 2 ∷ [];
  uniques = (1 ∷ 2 ∷ []) ∷ [];
  orders = plain ∷ [];
  references = refers (2 ∷ []) (codes "accounts") (codes "name" ∷ []) ∷ [];
}

abbrev pub reports : Plain
reports = record {
  name = codes "reports";
  tree = 10;
  columns = integer (codes "job") ∷ integer (codes "seq") ∷ integer (codes "kind") ∷ integer (codes "count") ∷ integer (codes "state") ∷ integer (codes "total") ∷ [];
  key = None;
  primary = 1 ∷ 2 ∷ [];
  uniques = (1 ∷ 2 ∷ []) ∷ [];
  orders = plain ∷ [];
  references = refers (1 ∷ []) (codes "jobs") (codes "number" ∷ []) ∷ [];
}

-- for how many seconds a held job is kept
abbrev pub policy : Plain
policy = record {
  name = codes "policy";
  tree = 15;
  columns = strict (codes "one") Integer false ∷ integer (codes "keep") ∷ [];
  key = Some 0;
  primary = 0 ∷ [];
  uniques = [];
  orders = [];
  references = [];
}

-- the callers who see every job and may cancel it
abbrev pub operators : Plain
operators = record {
  name = codes "operators";
  tree = 17;
  columns = text (codes "name") ∷ [];
  key = None;
  primary = 1 ∷ [];
  uniques = (1 ∷ []) ∷ [];
  orders = plain ∷ [];
  references = [];
}

-- the index that a key makes, on the next tree
abbrev pub key_of : Plain → List ℕ → ℕ → List ℕ → Index
key_of p name tree columns = record { name = name; tree = tree; table = p.tree; columns = columns; order = plain; is_unique = true }

-- jobs of one owner by phase
abbrev pub by_owner : Index
by_owner = record { name = codes "jobs_by_owner"; tree = 12; table = 1; columns = 2 ∷ 8 ∷ []; order = plain; is_unique = false }

-- jobs of one owner by the moment of their end
abbrev pub by_end : Index
by_end = record { name = codes "jobs_by_end"; tree = 13; table = 1; columns = 2 ∷ 14 ∷ []; order = plain; is_unique = false }

-- all jobs by phase, and those that wait by what they wait for
abbrev pub by_phase : Index
by_phase = record { name = codes "jobs_by_phase"; tree = 14; table = 1; columns = 8 ∷ 6 ∷ 7 ∷ []; order = plain; is_unique = false }

-- all jobs by phase, and those of one by the moment at which they came
abbrev pub by_age : Index
by_age = record { name = codes "jobs_by_age"; tree = 16; table = 1; columns = 8 ∷ 12 ∷ []; order = plain; is_unique = false }

-- the jobs of all by the moment of their end
abbrev pub by_ended : Index
by_ended = record { name = codes "jobs_by_ended"; tree = 19; table = 1; columns = 14 ∷ []; order = plain; is_unique = false }

abbrev pub no_schema : Schema
no_schema = record { tables = []; indexes = []; views = [] }

abbrev pub tables_alone : Schema
tables_alone = record {
  tables = map table_of (meta ∷ jobs ∷ documents ∷ pieces ∷ accounts ∷ grants ∷ reports ∷ []);
  indexes = key_of documents (codes "sqlite_autoindex_documents_1") 3 (1 ∷ 2 ∷ []) ∷ key_of pieces (codes "sqlite_autoindex_pieces_1") 5 (1 ∷ 2 ∷ 3 ∷ [])
      ∷ key_of accounts (codes "sqlite_autoindex_accounts_1") 7 (1 ∷ []) ∷ key_of grants (codes "sqlite_autoindex_grants_1") 9 (1 ∷ 2 ∷ []) ∷ key_of reports (codes "sqlite_autoindex_reports_1") 11 (1 ∷ 2 ∷ []) ∷ [];
  views = [];
}

abbrev pub first_schema : Schema
first_schema = record { tables = tables_alone.tables; indexes = tables_alone.indexes ++ by_owner ∷ by_end ∷ by_phase ∷ []; views = [] }

abbrev pub second_schema : Schema
second_schema = record { tables = first_schema.tables ++ table_of policy ∷ []; indexes = first_schema.indexes ++ by_age ∷ []; views = [] }

-- as `create` makes it
abbrev pub book_schema : Schema
book_schema = record {
  tables = second_schema.tables ++ table_of operators ∷ [];
  indexes = second_schema.indexes ++ key_of operators (codes "sqlite_autoindex_operators_1") 18 (1 ∷ []) ∷ by_ended ∷ [];
  views = [];
}

abbrev pub schema_of : Version → Schema
schema_of first_version = first_schema
schema_of second_version = second_schema
schema_of third_version = book_schema
