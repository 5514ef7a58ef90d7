-- What the texts on the rows mean.
use Rattle.std.proofs.Common.{◌≡◌, ℕ, pos, List, [], ◌∷◌, ◌++◌, codes, length, ◌==◌, if◌then◌else◌, Bool, true, false, refl}
use Rattle.sqlite.specs.declared.types.Value.TheVariants.{Null, Int}
use Rattle.sqlite.specs.Order.{Row}
use Rattle.sqlite.specs.Term.{Term, lit, col, op2}
use Rattle.sqlite_sql.specs.declared.ops.BinaryOp.TheVariants.{Compare, Arith}
use Rattle.sqlite_sql.specs.declared.ops.ArithOp.TheVariants.{Add}
use Rattle.sqlite_sql.specs.declared.ops.CompareOp.TheVariants.{Eq}
use Rattle.sqlite.specs.Collation.TheVariants.{Binary}
use Rattle.sqlite_value.specs.Keys.{ascending as plain_key}
use Rattle.sqlite_value.specs.declared.keys.Key.{Key}
use Rattle.sqlite.specs.Source.TheVariants.{Values}
use Rattle.sqlite.specs.Command.{Command}
use Rattle.sqlite.specs.Command.TheVariants.{Delete, Insert, Update, Select}
use Rattle.sqlite_resolve.specs.Compile.{first}
use Rattle.sqlite_tied.specs.Compute.{everything}
use Rattle.sqlite.specs.Listing.{understood, reads_listing}
use Rattle.sqlite.specs.Program.{overlay}
use Rattle.sqlite.specs.Query.{Query}
use Rattle.sqlite.specs.Tree.{Trees}
use Rattle.sqlite.proofs.Callers.{IsPlain, command_of}
use Rattle.sqlite_schema.specs.declared.schema.Keys.TheVariants.{Enforced}
use Rattle.sqlite_schema.specs.declared.schema.Action.TheVariants.{NoAction}
use Rattle.sqlite_rules.specs.Action.{works}
use Rattle.queue_tables.proofs.PlainQueries.{plain_query}
use Rattle.queue_tables.specs.Queries.{IsQueryText}
use Rattle.queue_tables.specs.Tables.{book_schema}

-- ---- what a text means

-- it is that command over the tables, and no other
pub record Means (text : List ℕ) (meant : Command) : Type 0 where
  pub command : command_of (understood book_schema text) ≡ meant
  pub plain : IsPlain (understood book_schema text)

-- it is that query, which reads rows of the tables alone
pub record Shows (text : List ℕ) (meant : Command) : Type 0 where
  pub command : command_of (understood book_schema text) ≡ meant
  pub plain : IsPlain (understood book_schema text)
  pub query : IsQueryText text
  pub unlisted : reads_listing book_schema text ≡ false

-- a SELECT of these columns of the rows of one table for which the conditions of WHERE hold, in this order
pub record Selection : Type 0 where
  pub text : List ℕ
  pub names : List (List ℕ)
  pub tree : ℕ
  pub filter : List Term
  pub terms : List Term
  pub order : List (Term × Key)

abbrev pub query_of : Selection → Query
query_of q = plain_query q.tree q.filter q.terms q.order

-- its text means it
pub record IsSelection (q : Selection) : Type 0 where
  pub shows : Shows q.text (Select (record { lets = []; body = query_of q }) q.names)
  pub plainly : (db : Trees) → overlay db [] q.tree ≡ db q.tree

-- its text means the first of its rows, as many as that parameter says
pub record IsLimited (q : Selection) (at : ℕ) : Type 0 where
  pub shows : Shows q.text (Select (record { lets = []; body = record (query_of q) { limit = col 0 at } }) q.names)
  pub plainly : (db : Trees) → overlay db [] q.tree ≡ db q.tree

-- the columns of a job
abbrev pub job_terms : List Term
job_terms = col 1 0 ∷ col 1 2 ∷ col 1 3 ∷ col 1 4 ∷ col 1 5 ∷ col 1 6 ∷ col 1 7 ∷ col 1 8 ∷ col 1 9 ∷ col 1 10 ∷ col 1 11 ∷ col 1 12 ∷ col 1 13 ∷ col 1 14 ∷ []

abbrev pub job_names : List (List ℕ)
job_names = codes "number" ∷ codes "owner" ∷ codes "name" ∷ codes "copies" ∷ codes "impressions" ∷ codes "hold" ∷ codes "incoming" ∷ codes "phase" ∷ codes "why" ∷ codes "stopping" ∷ codes "count" ∷ codes "created" ∷ codes "begun" ∷ codes "ended" ∷ []

-- a text with the columns of a job between two parts
abbrev pub with_job_columns : List ℕ → List ℕ → List ℕ
with_job_columns before behind = before ++ (codes "number, owner, name, copies, impressions, hold, incoming, phase, why, stopping, count, created, begun, ended" ++ behind)

-- all columns of the rows of jobs for which the conditions hold; the text is what stands behind the columns
abbrev pub jobs_selected : List ℕ → List Term → List (Term × Key) → Selection
jobs_selected behind filter order = record { text = with_job_columns (codes "SELECT ") behind; names = job_names; tree = 1; filter = filter; terms = job_terms; order = order }

-- ---- a new row of meta

abbrev pub insert_meta_text : List ℕ
insert_meta_text = codes "INSERT INTO meta (one, schema, uri, name, estimate, epoch, next_number) VALUES (?1, ?2, ?3, ?4, ?5, ?6, ?7)"

abbrev pub insert_meta_terms : List Term
insert_meta_terms = col 0 0 ∷ lit Null ∷ col 0 1 ∷ col 0 2 ∷ col 0 3 ∷ col 0 4 ∷ col 0 5 ∷ col 0 6 ∷ []

pub insert_meta_is : Means insert_meta_text (Insert 0 (Values insert_meta_terms 8))
unfolding understood everything
insert_meta_is = record { command = refl; plain = (refl, refl) }

-- ---- a new row of policy

abbrev pub insert_policy_text : List ℕ
insert_policy_text = codes "INSERT INTO policy (one, keep) VALUES (?1, ?2)"

abbrev pub insert_policy_terms : List Term
insert_policy_terms = col 0 0 ∷ lit Null ∷ col 0 1 ∷ []

pub insert_policy_is : Means insert_policy_text (Insert 7 (Values insert_policy_terms 3))
unfolding understood everything
insert_policy_is = record { command = refl; plain = (refl, refl) }

-- ---- a new row of operators

abbrev pub insert_operator_text : List ℕ
insert_operator_text = codes "INSERT INTO operators (name) VALUES (?1)"

abbrev pub insert_operator_terms : List Term
insert_operator_terms = lit Null ∷ col 0 0 ∷ []

pub insert_operator_is : Means insert_operator_text (Insert 8 (Values insert_operator_terms 2))
unfolding understood everything
insert_operator_is = record { command = refl; plain = (refl, refl) }

-- ---- all rows of operators

-- what a DELETE reads of the rows
abbrev pub rowid_alone : List Term
rowid_alone = col 1 0 ∷ []

abbrev pub delete_operators_text : List ℕ
delete_operators_text = codes "DELETE FROM operators"

pub delete_operators_is : Means delete_operators_text (Delete 8 (record { lets = []; body = plain_query 17 [] rowid_alone [] }))
unfolding understood everything
delete_operators_is = record { command = refl; plain = (refl, refl) }

-- ---- a new row of jobs

abbrev pub insert_job_text : List ℕ
insert_job_text = with_job_columns (codes "INSERT INTO jobs (") (codes ") VALUES (?1, ?2, ?3, ?4, ?5, ?6, ?7, ?8, ?9, ?10, ?11, ?12, ?13, ?14)")

abbrev pub insert_job_terms : List Term
insert_job_terms = col 0 0 ∷ lit Null ∷ col 0 1 ∷ col 0 2 ∷ col 0 3 ∷ col 0 4 ∷ col 0 5 ∷ col 0 6 ∷ col 0 7 ∷ col 0 8 ∷ col 0 9 ∷ col 0 10 ∷ col 0 11 ∷ col 0 12 ∷ col 0 13 ∷ []

pub insert_job_is : Means insert_job_text (Insert 1 (Values insert_job_terms 15))
unfolding understood everything
insert_job_is = record { command = refl; plain = (refl, refl) }

-- ---- a new row of documents

abbrev pub insert_document_text : List ℕ
insert_document_text = codes "INSERT INTO documents (job, doc, format, octets) VALUES (?1, ?2, ?3, ?4)"

abbrev pub insert_document_terms : List Term
insert_document_terms = lit Null ∷ col 0 0 ∷ col 0 1 ∷ col 0 2 ∷ col 0 3 ∷ []

pub insert_document_is : Means insert_document_text (Insert 2 (Values insert_document_terms 5))
unfolding understood everything
insert_document_is = record { command = refl; plain = (refl, refl) }

-- ---- a new row of pieces

abbrev pub insert_piece_text : List ℕ
insert_piece_text = codes "INSERT INTO pieces (job, doc, piece, bytes) VALUES (?1, ?2, ?3, ?4)"

abbrev pub insert_piece_terms : List Term
insert_piece_terms = lit Null ∷ col 0 0 ∷ col 0 1 ∷ col 0 2 ∷ col 0 3 ∷ []

pub insert_piece_is : Means insert_piece_text (Insert 3 (Values insert_piece_terms 5))
unfolding understood everything
insert_piece_is = record { command = refl; plain = (refl, refl) }

-- ---- a new row of accounts

abbrev pub insert_account_text : List ℕ
insert_account_text = codes "INSERT INTO accounts (name, free, reserved, printed) VALUES (?1, ?2, ?3, ?4)"

abbrev pub insert_account_terms : List Term
insert_account_terms = lit Null ∷ col 0 0 ∷ col 0 1 ∷ col 0 2 ∷ col 0 3 ∷ []

pub insert_account_is : Means insert_account_text (Insert 4 (Values insert_account_terms 5))
unfolding understood everything
insert_account_is = record { command = refl; plain = (refl, refl) }

-- ---- a new row of grants

abbrev pub insert_grant_text : List ℕ
insert_grant_text = codes "INSERT INTO grants (batch, account, pages) VALUES (?1, ?2, ?3)"

abbrev pub insert_grant_terms : List Term
insert_grant_terms = lit Null ∷ col 0 0 ∷ col 0 1 ∷ col 0 2 ∷ []

pub insert_grant_is : Means insert_grant_text (Insert 5 (Values insert_grant_terms 4))
unfolding understood everything
insert_grant_is = record { command = refl; plain = (refl, refl) }

-- ---- a new row of reports

abbrev pub insert_report_text : List ℕ
insert_report_text = codes "INSERT INTO reports (job, seq, kind, count, state, total) VALUES (?1, ?2, ?3, ?4, ?5, ?6)"

abbrev pub insert_report_terms : List Term
insert_report_terms = lit Null ∷ col 0 0 ∷ col 0 1 ∷ col 0 2 ∷ col 0 3 ∷ col 0 4 ∷ col 0 5 ∷ []

pub insert_report_is : Means insert_report_text (Insert 6 (Values insert_report_terms 7))
unfolding understood everything
insert_report_is = record { command = refl; plain = (refl, refl) }

-- ---- UPDATE jobs: owner, name, copies, impressions, hold, incoming, phase, why, stopping, count, created, begun, ended

abbrev pub update_job_text : List ℕ
update_job_text = codes "UPDATE jobs SET owner = ?2, name = ?3, copies = ?4, impressions = ?5, hold = ?6, incoming = ?7, phase = ?8, why = ?9, stopping = ?10, count = ?11, created = ?12, begun = ?13, ended = ?14 WHERE number = ?1"

abbrev pub update_job_terms : List Term
update_job_terms = col 1 0 ∷ col 1 0 ∷ lit Null ∷ col 0 1 ∷ col 0 2 ∷ col 0 3 ∷ col 0 4 ∷ col 0 5 ∷ col 0 6 ∷ col 0 7 ∷ col 0 8 ∷ col 0 9 ∷ col 0 10 ∷ col 0 11 ∷ col 0 12 ∷ col 0 13 ∷ []

abbrev pub update_job_where : List Term
update_job_where = op2 (Compare Eq Binary) (col 1 0) (col 0 0) ∷ []

pub update_job_is : Means update_job_text (Update 1 (record { lets = []; body = plain_query 1 update_job_where update_job_terms [] }))
unfolding understood everything
update_job_is = record { command = refl; plain = (refl, refl) }

-- ---- UPDATE accounts: reserved, printed

abbrev pub update_sums_text : List ℕ
update_sums_text = codes "UPDATE accounts SET reserved = reserved + ?2, printed = printed + ?3 WHERE name = ?1"

abbrev pub update_sums_terms : List Term
update_sums_terms = col 1 0 ∷ col 1 0 ∷ col 1 1 ∷ col 1 2 ∷ op2 (Arith Add) (col 1 3) (col 0 1) ∷ op2 (Arith Add) (col 1 4) (col 0 2) ∷ []

abbrev pub update_sums_where : List Term
update_sums_where = op2 (Compare Eq Binary) (col 1 1) (col 0 0) ∷ []

pub update_sums_is : Means update_sums_text (Update 4 (record { lets = []; body = plain_query 6 update_sums_where update_sums_terms [] }))
unfolding understood everything
update_sums_is = record { command = refl; plain = (refl, refl) }

-- ---- UPDATE accounts: free

abbrev pub update_free_text : List ℕ
update_free_text = codes "UPDATE accounts SET free = ?2 WHERE name = ?1"

abbrev pub update_free_terms : List Term
update_free_terms = col 1 0 ∷ col 1 0 ∷ col 1 1 ∷ col 0 1 ∷ col 1 3 ∷ col 1 4 ∷ []

abbrev pub update_free_where : List Term
update_free_where = op2 (Compare Eq Binary) (col 1 1) (col 0 0) ∷ []

pub update_free_is : Means update_free_text (Update 4 (record { lets = []; body = plain_query 6 update_free_where update_free_terms [] }))
unfolding understood everything
update_free_is = record { command = refl; plain = (refl, refl) }

-- ---- UPDATE meta: next_number

abbrev pub update_next_text : List ℕ
update_next_text = codes "UPDATE meta SET next_number = ?1 WHERE one = 1"

abbrev pub update_next_terms : List Term
update_next_terms = col 1 0 ∷ col 1 0 ∷ lit Null ∷ col 1 2 ∷ col 1 3 ∷ col 1 4 ∷ col 1 5 ∷ col 1 6 ∷ col 0 0 ∷ []

abbrev pub update_next_where : List Term
update_next_where = op2 (Compare Eq Binary) (col 1 0) (lit (Int (pos 1))) ∷ []

pub update_next_is : Means update_next_text (Update 0 (record { lets = []; body = plain_query 0 update_next_where update_next_terms [] }))
unfolding understood everything
update_next_is = record { command = refl; plain = (refl, refl) }

-- ---- UPDATE meta: schema

abbrev pub update_schema_text : List ℕ
update_schema_text = codes "UPDATE meta SET schema = ?1 WHERE one = 1"

abbrev pub update_schema_terms : List Term
update_schema_terms = col 1 0 ∷ col 1 0 ∷ lit Null ∷ col 0 0 ∷ col 1 3 ∷ col 1 4 ∷ col 1 5 ∷ col 1 6 ∷ col 1 7 ∷ []

pub update_schema_is : Means update_schema_text (Update 0 (record { lets = []; body = plain_query 0 update_next_where update_schema_terms [] }))
unfolding understood everything
update_schema_is = record { command = refl; plain = (refl, refl) }

-- ---- SELECT jobs by number

abbrev pub select_job : Selection
select_job = jobs_selected (codes " FROM jobs WHERE number = ?1") (op2 (Compare Eq Binary) (col 1 0) (col 0 0) ∷ []) []

pub select_job_is : IsSelection select_job
unfolding understood first everything
select_job_is = record { shows = record { command = refl; plain = (refl, refl); query = refl; unlisted = refl }; plainly = λ db. refl }

-- ---- SELECT documents of a job

abbrev pub select_octets : Selection
select_octets = record {
  text = codes "SELECT octets FROM documents WHERE job = ?1 ORDER BY doc";
  names = codes "octets" ∷ [];
  tree = 2;
  filter = op2 (Compare Eq Binary) (col 1 1) (col 0 0) ∷ [];
  terms = col 1 4 ∷ [];
  order = (col 1 2, plain_key Binary) ∷ [];
}

pub select_octets_is : IsSelection select_octets
unfolding understood first everything
select_octets_is = record { shows = record { command = refl; plain = (refl, refl); query = refl; unlisted = refl }; plainly = λ db. refl }

-- ---- SELECT accounts by name

abbrev pub select_account : Selection
select_account = record {
  text = codes "SELECT free, reserved, printed FROM accounts WHERE name = ?1";
  names = codes "free" ∷ codes "reserved" ∷ codes "printed" ∷ [];
  tree = 6;
  filter = op2 (Compare Eq Binary) (col 1 1) (col 0 0) ∷ [];
  terms = col 1 2 ∷ col 1 3 ∷ col 1 4 ∷ [];
  order = [];
}

pub select_account_is : IsSelection select_account
unfolding understood first everything
select_account_is = record { shows = record { command = refl; plain = (refl, refl); query = refl; unlisted = refl }; plainly = λ db. refl }

-- ---- no foreign key acts

no_action : (b : Bool) → (if b then NoAction else NoAction) ≡ NoAction
no_action true = refl
no_action false = refl

pub meta_still : (olds news : List Row) → works book_schema Enforced 0 0 olds news ≡ []
unfolding everything
meta_still olds news = rw (no_action (length news == 0)) refl

pub policy_still : (olds news : List Row) → works book_schema Enforced 0 15 olds news ≡ []
unfolding everything
policy_still olds news = rw (no_action (length news == 0)) refl

pub operators_still : (olds news : List Row) → works book_schema Enforced 0 17 olds news ≡ []
unfolding everything
operators_still olds news = rw (no_action (length news == 0)) refl

pub jobs_still : (olds news : List Row) → works book_schema Enforced 0 1 olds news ≡ []
unfolding everything
jobs_still olds news = rw (no_action (length news == 0)) refl

pub documents_still : (olds news : List Row) → works book_schema Enforced 0 2 olds news ≡ []
unfolding everything
documents_still olds news = rw (no_action (length news == 0)) refl

pub pieces_still : (olds news : List Row) → works book_schema Enforced 0 4 olds news ≡ []
unfolding everything
pieces_still olds news = rw (no_action (length news == 0)) refl

pub accounts_still : (olds news : List Row) → works book_schema Enforced 0 6 olds news ≡ []
unfolding everything
accounts_still olds news = rw (no_action (length news == 0)) refl

pub grants_still : (olds news : List Row) → works book_schema Enforced 0 8 olds news ≡ []
unfolding everything
grants_still olds news = rw (no_action (length news == 0)) refl

pub reports_still : (olds news : List Row) → works book_schema Enforced 0 10 olds news ≡ []
unfolding everything
reports_still olds news = rw (no_action (length news == 0)) refl
