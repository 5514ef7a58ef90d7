-- What the texts that read whole tables mean.
use Rattle.std.proofs.Common.{◌≡◌, inl, inr, ℕ, pos, List, [], ◌∷◌, map, take, length, codes, false, refl, sym, subst, slice_set as set}
use Rattle.sqlite.specs.Order.{Row}
use Rattle.sqlite.specs.Term.{Term, col, eval_all, lit, op2}
use Rattle.sqlite_sql.specs.declared.ops.BinaryOp.TheVariants.{And, Arith, Compare}
use Rattle.sqlite_sql.specs.declared.ops.ArithOp.TheVariants.{Add}
use Rattle.sqlite_sql.specs.declared.ops.CompareOp.TheVariants.{Eq}
use Rattle.sqlite.specs.Collation.TheVariants.{Binary}
use Rattle.sqlite.specs.declared.types.Value.TheVariants.{Int}
use Rattle.sqlite_value.specs.Keys.{ascending as plain_key}
use Rattle.sqlite_value.specs.declared.keys.Key.{Key}
use Rattle.sqlite_resolve.specs.Compile.{first}
use Rattle.sqlite_tied.specs.Compute.{everything}
use Rattle.sqlite.specs.Command.TheVariants.{Select}
use Rattle.sqlite.specs.Listing.{reads_listing, understood}
use Rattle.sqlite.specs.Program.{overlay}
use Rattle.sqlite.specs.Schema.{Schema}
use Rattle.sqlite.specs.Tree.{Trees}
use Rattle.sqlite.proofs.Callers.{IsPlain, command_of}
use Rattle.queue_rows.specs.Versions.{Version, first_version, second_version, third_version}
use Rattle.queue_tables.specs.Queries.{IsQueryText}
use Rattle.queue_tables.specs.Tables.{schema_of}
use Rattle.queue_load.specs.Store.{IsWithOperators, IsWithPolicy}
use Rattle.queue_tables.proofs.PlainQueries.{shown_of}
use Rattle.queue_tables.proofs.Statements.{Selection, query_of, job_names, job_terms}

-- a SELECT of these columns of all rows of a table, in the order of the first of them, its keys
pub record WholeQuery : Type 0 where
  pub sql : List ℕ
  pub names : List (List ℕ)
  pub tree : ℕ
  pub terms : List Term
  pub order : List (Term × Key)
  pub keys : ℕ
  pub width : ℕ

abbrev pub selection_of : WholeQuery → Selection
selection_of q = record { text = q.sql; names = q.names; tree = q.tree; filter = []; terms = q.terms; order = q.order }

-- its text is a query, and shows the rows in that order
pub record IsWhole (q : WholeQuery) : Type 0 where
  pub query : IsQueryText q.sql
  pub plainly : (db : Trees) → overlay db [] q.tree ≡ db q.tree
  pub leads : (r : Row) → eval_all (map (λ t. t.0) q.order) ([] ∷ r ∷ []) ≡ take q.keys (shown_of q.terms [] r)
  pub wide : (r : Row) → length (shown_of q.terms [] r) ≡ q.width

-- over the tables of that schema its text means it
pub record IsReading (schema : Schema) (q : WholeQuery) : Type 0 where
  pub command : command_of (understood schema q.sql) ≡ Select (record { lets = []; body = query_of (selection_of q) }) q.names
  pub plain : IsPlain (understood schema q.sql)
  pub unlisted : reads_listing schema q.sql ≡ false

abbrev by : Term → Term × Key
by t = (t, plain_key Binary)

-- ---- meta

abbrev pub meta_query : WholeQuery
meta_query = record {
  sql = codes "SELECT one, schema, uri, name, estimate, epoch, next_number FROM meta ORDER BY one";
  names = codes "one" ∷ codes "schema" ∷ codes "uri" ∷ codes "name" ∷ codes "estimate" ∷ codes "epoch" ∷ codes "next_number" ∷ [];
  tree = 0;
  terms = col 1 0 ∷ col 1 2 ∷ col 1 3 ∷ col 1 4 ∷ col 1 5 ∷ col 1 6 ∷ col 1 7 ∷ [];
  order = by (col 1 0) ∷ [];
  keys = 1;
  width = 7;
}

pub meta_is : IsWhole meta_query
unfolding first everything
meta_is = record { query = refl; plainly = λ db. refl; leads = λ r. refl; wide = λ r. refl }

pub meta_reads : (n : Version) → IsReading (schema_of n) meta_query
unfolding understood first everything
meta_reads first_version = record { command = refl; plain = (refl, refl); unlisted = refl }
meta_reads second_version = record { command = refl; plain = (refl, refl); unlisted = refl }
meta_reads third_version = record { command = refl; plain = (refl, refl); unlisted = refl }

-- ---- jobs

abbrev pub jobs_query : WholeQuery
jobs_query = record {
  sql = codes "SELECT number, owner, name, copies, impressions, hold, incoming, phase, why + (why = 0 AND stopping = 1), stopping, count, created, begun, ended FROM jobs ORDER BY number";
  names = set job_names 8 (codes "why + (why = 0 AND stopping = 1)");
  tree = 1;
  terms = set job_terms 8 (op2 (Arith Add) (col 1 9) (op2 And (op2 (Compare Eq Binary) (col 1 9) (lit (Int (pos 0)))) (op2 (Compare Eq Binary) (col 1 10) (lit (Int (pos 1))))));
  order = by (col 1 0) ∷ [];
  keys = 1;
  width = 14;
}

pub jobs_is : IsWhole jobs_query
unfolding first everything
jobs_is = record { query = refl; plainly = λ db. refl; leads = λ r. refl; wide = λ r. refl }

pub jobs_reads : (n : Version) → IsReading (schema_of n) jobs_query
unfolding understood first everything
jobs_reads first_version = record { command = refl; plain = (refl, refl); unlisted = refl }
jobs_reads second_version = record { command = refl; plain = (refl, refl); unlisted = refl }
jobs_reads third_version = record { command = refl; plain = (refl, refl); unlisted = refl }

-- ---- documents

abbrev pub documents_query : WholeQuery
documents_query = record {
  sql = codes "SELECT job, doc, format, octets FROM documents ORDER BY job, doc";
  names = codes "job" ∷ codes "doc" ∷ codes "format" ∷ codes "octets" ∷ [];
  tree = 2;
  terms = col 1 1 ∷ col 1 2 ∷ col 1 3 ∷ col 1 4 ∷ [];
  order = by (col 1 1) ∷ by (col 1 2) ∷ [];
  keys = 2;
  width = 4;
}

pub documents_is : IsWhole documents_query
unfolding first everything
documents_is = record { query = refl; plainly = λ db. refl; leads = λ r. refl; wide = λ r. refl }

pub documents_reads : (n : Version) → IsReading (schema_of n) documents_query
unfolding understood first everything
documents_reads first_version = record { command = refl; plain = (refl, refl); unlisted = refl }
documents_reads second_version = record { command = refl; plain = (refl, refl); unlisted = refl }
documents_reads third_version = record { command = refl; plain = (refl, refl); unlisted = refl }

-- ---- pieces

abbrev pub pieces_query : WholeQuery
pieces_query = record {
  sql = codes "SELECT job, doc, piece, bytes FROM pieces ORDER BY job, doc, piece";
  names = codes "job" ∷ codes "doc" ∷ codes "piece" ∷ codes "bytes" ∷ [];
  tree = 4;
  terms = col 1 1 ∷ col 1 2 ∷ col 1 3 ∷ col 1 4 ∷ [];
  order = by (col 1 1) ∷ by (col 1 2) ∷ by (col 1 3) ∷ [];
  keys = 3;
  width = 4;
}

pub pieces_is : IsWhole pieces_query
unfolding first everything
pieces_is = record { query = refl; plainly = λ db. refl; leads = λ r. refl; wide = λ r. refl }

pub pieces_reads : (n : Version) → IsReading (schema_of n) pieces_query
unfolding understood first everything
pieces_reads first_version = record { command = refl; plain = (refl, refl); unlisted = refl }
pieces_reads second_version = record { command = refl; plain = (refl, refl); unlisted = refl }
pieces_reads third_version = record { command = refl; plain = (refl, refl); unlisted = refl }

-- ---- accounts

abbrev pub accounts_query : WholeQuery
accounts_query = record {
  sql = codes "SELECT name, free, reserved, printed FROM accounts ORDER BY name";
  names = codes "name" ∷ codes "free" ∷ codes "reserved" ∷ codes "printed" ∷ [];
  tree = 6;
  terms = col 1 1 ∷ col 1 2 ∷ col 1 3 ∷ col 1 4 ∷ [];
  order = by (col 1 1) ∷ [];
  keys = 1;
  width = 4;
}

pub accounts_is : IsWhole accounts_query
unfolding first everything
accounts_is = record { query = refl; plainly = λ db. refl; leads = λ r. refl; wide = λ r. refl }

pub accounts_reads : (n : Version) → IsReading (schema_of n) accounts_query
unfolding understood first everything
accounts_reads first_version = record { command = refl; plain = (refl, refl); unlisted = refl }
accounts_reads second_version = record { command = refl; plain = (refl, refl); unlisted = refl }
accounts_reads third_version = record { command = refl; plain = (refl, refl); unlisted = refl }

-- ---- grants

abbrev pub grants_query : WholeQuery
grants_query = record {
  sql = codes "SELECT batch, account, pages FROM grants ORDER BY batch, account";
  names = codes "batch" ∷ codes "account" ∷ codes "pages" ∷ [];
  tree = 8;
  terms = col 1 1 ∷ col 1 2 ∷ col 1 3 ∷ [];
  order = by (col 1 1) ∷ by (col 1 2) ∷ [];
  keys = 2;
  width = 3;
}

pub grants_is : IsWhole grants_query
unfolding first everything
grants_is = record { query = refl; plainly = λ db. refl; leads = λ r. refl; wide = λ r. refl }

pub grants_reads : (n : Version) → IsReading (schema_of n) grants_query
unfolding understood first everything
grants_reads first_version = record { command = refl; plain = (refl, refl); unlisted = refl }
grants_reads second_version = record { command = refl; plain = (refl, refl); unlisted = refl }
grants_reads third_version = record { command = refl; plain = (refl, refl); unlisted = refl }

-- ---- reports

abbrev pub reports_query : WholeQuery
reports_query = record {
  sql = codes "SELECT job, seq, kind, count, state, total FROM reports ORDER BY job, seq";
  names = codes "job" ∷ codes "seq" ∷ codes "kind" ∷ codes "count" ∷ codes "state" ∷ codes "total" ∷ [];
  tree = 10;
  terms = col 1 1 ∷ col 1 2 ∷ col 1 3 ∷ col 1 4 ∷ col 1 5 ∷ col 1 6 ∷ [];
  order = by (col 1 1) ∷ by (col 1 2) ∷ [];
  keys = 2;
  width = 6;
}

pub reports_is : IsWhole reports_query
unfolding first everything
reports_is = record { query = refl; plainly = λ db. refl; leads = λ r. refl; wide = λ r. refl }

pub reports_reads : (n : Version) → IsReading (schema_of n) reports_query
unfolding understood first everything
reports_reads first_version = record { command = refl; plain = (refl, refl); unlisted = refl }
reports_reads second_version = record { command = refl; plain = (refl, refl); unlisted = refl }
reports_reads third_version = record { command = refl; plain = (refl, refl); unlisted = refl }

-- ---- policy, which the first version lacks

abbrev pub policy_query : WholeQuery
policy_query = record {
  sql = codes "SELECT one, keep FROM policy ORDER BY one";
  names = codes "one" ∷ codes "keep" ∷ [];
  tree = 15;
  terms = col 1 0 ∷ col 1 2 ∷ [];
  order = by (col 1 0) ∷ [];
  keys = 1;
  width = 2;
}

pub policy_is : IsWhole policy_query
unfolding first everything
policy_is = record { query = refl; plainly = λ db. refl; leads = λ r. refl; wide = λ r. refl }

policy_of_second : IsReading (schema_of second_version) policy_query
unfolding understood first everything
policy_of_second = record { command = refl; plain = (refl, refl); unlisted = refl }

policy_of_third : IsReading (schema_of third_version) policy_query
unfolding understood first everything
policy_of_third = record { command = refl; plain = (refl, refl); unlisted = refl }

pub policy_reads : (s : Schema) → IsWithPolicy s → IsReading s policy_query
policy_reads s (inl is) = subst (λ (t : Schema). IsReading t policy_query) (sym is) policy_of_second
policy_reads s (inr is) = subst (λ (t : Schema). IsReading t policy_query) (sym is) policy_of_third

-- ---- operators, which the first two lack

abbrev pub operators_query : WholeQuery
operators_query = record {
  sql = codes "SELECT name FROM operators ORDER BY name";
  names = codes "name" ∷ [];
  tree = 17;
  terms = col 1 1 ∷ [];
  order = by (col 1 1) ∷ [];
  keys = 1;
  width = 1;
}

pub operators_is : IsWhole operators_query
unfolding first everything
operators_is = record { query = refl; plainly = λ db. refl; leads = λ r. refl; wide = λ r. refl }

operators_of_third : IsReading (schema_of third_version) operators_query
unfolding understood first everything
operators_of_third = record { command = refl; plain = (refl, refl); unlisted = refl }

pub operators_reads : (s : Schema) → IsWithOperators s → IsReading s operators_query
operators_reads s is = subst (λ (t : Schema). IsReading t operators_query) (sym is) operators_of_third

-- ---- rowids of the accounts and of the operators

abbrev pub rowids_query : WholeQuery
rowids_query = record {
  sql = codes "SELECT rowid FROM accounts ORDER BY rowid";
  names = codes "rowid" ∷ [];
  tree = 6;
  terms = col 1 0 ∷ [];
  order = by (col 1 0) ∷ [];
  keys = 1;
  width = 1;
}

pub rowids_is : IsWhole rowids_query
unfolding first everything
rowids_is = record { query = refl; plainly = λ db. refl; leads = λ r. refl; wide = λ r. refl }

pub rowids_reads : (n : Version) → IsReading (schema_of n) rowids_query
unfolding understood first everything
rowids_reads first_version = record { command = refl; plain = (refl, refl); unlisted = refl }
rowids_reads second_version = record { command = refl; plain = (refl, refl); unlisted = refl }
rowids_reads third_version = record { command = refl; plain = (refl, refl); unlisted = refl }

abbrev pub operator_rowids_query : WholeQuery
operator_rowids_query = record {
  sql = codes "SELECT rowid FROM operators ORDER BY rowid";
  names = codes "rowid" ∷ [];
  tree = 17;
  terms = col 1 0 ∷ [];
  order = by (col 1 0) ∷ [];
  keys = 1;
  width = 1;
}

pub operator_rowids_is : IsWhole operator_rowids_query
unfolding first everything
operator_rowids_is = record { query = refl; plainly = λ db. refl; leads = λ r. refl; wide = λ r. refl }

operator_rowids_of_third : IsReading (schema_of third_version) operator_rowids_query
unfolding understood first everything
operator_rowids_of_third = record { command = refl; plain = (refl, refl); unlisted = refl }

pub operator_rowids_reads : (s : Schema) → IsWithOperators s → IsReading s operator_rowids_query
operator_rowids_reads s is = subst (λ (t : Schema). IsReading t operator_rowids_query) (sym is) operator_rowids_of_third
