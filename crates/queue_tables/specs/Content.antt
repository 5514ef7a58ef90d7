-- What the tables hold, and which world they stand for.
use Rattle.std.specs.Prelude.{◌≡◌, ◌⊎◌, ⊤, ℕ, pos, ◌+◌, List, [], ◌∷◌, ◌++◌, Some, All, map, flat_map, length, IsTrue}
use Rattle.std.specs.List.{range_with_len}
use Rattle.std.specs.FinMap.{entries}
use Rattle.sqlite.specs.Order.{Row}
use Rattle.sqlite.specs.Tree.{Trees}
use Rattle.sqlite.specs.Effect.{IsDatabase}
use Rattle.sqlite.specs.State.{State}
use Rattle.sqlite_catalog.specs.Listing.{IsSound as KeepsSchema}
use Rattle.queue_types.specs.declared.document.Document.{Document}
use Rattle.queue_types.specs.declared.job.Job.{Job}
use Rattle.queue_core.specs.World.{World, job_at, rows}
use Rattle.queue_core.specs.Sound.{IsSound, reserved, printed}
use Rattle.queue_rows.specs.Documents.{documents_from}
use Rattle.queue_rows.specs.Pieces.{pieces_in, piece_at}
use Rattle.queue_rows.specs.Rows.{meta_row, grant_row}
use Rattle.queue_rows.specs.Versions.{IsOf, Version, policy_row, first_version, second_version, third_version}
use Rattle.queue_tables.specs.Kept.{HasRows}
use Rattle.queue_tables.specs.Tables.{book_schema, schema_of}
use Rattle.queue_tables.specs.Values.{kept_job_view, meta_values, meta_view, operator_values, operator_view, policy_values, policy_view, job_values, job_view, document_values, document_view, piece_values, piece_view, account_values, account_view, grant_values, grant_view, report_values, report_view}

-- the values in the rows of each table
pub record Content : Type 0 where
  pub meta : List Row
  pub jobs : List Row
  pub documents : List Row
  pub pieces : List Row
  pub accounts : List Row
  pub grants : List Row
  pub reports : List Row
  pub policy : List Row
  pub operators : List Row

-- the rows of a job's documents, which count from a number on
abbrev pub document_rows : ℕ → ℕ → List Document → List Row
document_rows job doc ds = map document_values (documents_from job doc ds)

-- the pieces of a document, which count from 0
abbrev pub piece_rows : ℕ → ℕ → List ℕ → List Row
piece_rows job doc bytes = map (λ k. piece_values job doc k (piece_at bytes k)) (range_with_len 0 (pieces_in (length bytes)))

-- the pieces of documents, which count from a number on
abbrev pub pieces_from : ℕ → ℕ → List Document → List Row
pieces_from job doc [] = []
pieces_from job doc (d ∷ ds) = piece_rows job doc d.bytes ++ pieces_from job (doc + 1) ds

-- the rows of a world: its settings with the next number, its jobs, their documents and those's pieces, its accounts with the
-- sums over their jobs, its grants and its reports, for how long a held job is kept, and its operators
abbrev pub content_of : World → Content
content_of w = record {
  meta = meta_values (meta_row third_version w) ∷ [];
  jobs = map job_values (rows w);
  documents = flat_map (λ e. document_rows e.row.number 1 e.documents) w.jobs;
  pieces = flat_map (λ e. pieces_from e.row.number 1 e.documents) w.jobs;
  accounts = map (λ a. account_values a.0 a.1 (pos (reserved a.0 w)) (pos (printed a.0 w))) (entries w.free);
  grants = map (λ g. grant_values (grant_row g)) (entries w.grants);
  reports = map (λ r. report_values r.1) (entries w.reports);
  policy = policy_values (policy_row w.settings.keep) ∷ [];
  operators = map operator_values w.settings.operators;
}

-- with the number of that version
abbrev pub numbered_content : Version → World → Content
numbered_content n w = record (content_of w) { meta = meta_values (meta_row n w) ∷ [] }

-- the trees have these rows, in whatever order; those that are put anew are told apart by their rowids
pub record HasContent (c : Content) (db : Trees) : Type 0 where
  pub meta : HasRows ⊤ meta_view c.meta (db 0)
  pub jobs : HasRows ⊤ job_view c.jobs (db 1)
  pub documents : HasRows ⊥ document_view c.documents (db 2)
  pub pieces : HasRows ⊥ piece_view c.pieces (db 4)
  pub accounts : HasRows ⊤ account_view c.accounts (db 6)
  pub grants : HasRows ⊥ grant_view c.grants (db 8)
  pub reports : HasRows ⊥ report_view c.reports (db 10)
  pub policy : HasRows ⊤ policy_view c.policy (db 15)
  pub operators : HasRows ⊤ operator_view c.operators (db 17)

-- the same of the tables of the first version, which has no table policy, and 0 in the column why of a job that its user stops
pub record HasFirst (c : Content) (db : Trees) : Type 0 where
  pub meta : HasRows ⊤ meta_view c.meta (db 0)
  pub jobs : HasRows ⊤ kept_job_view c.jobs (db 1)
  pub documents : HasRows ⊥ document_view c.documents (db 2)
  pub pieces : HasRows ⊥ piece_view c.pieces (db 4)
  pub accounts : HasRows ⊤ account_view c.accounts (db 6)
  pub grants : HasRows ⊥ grant_view c.grants (db 8)
  pub reports : HasRows ⊥ report_view c.reports (db 10)

-- of the second version, which has no table operators
pub record HasSecond (c : Content) (db : Trees) : Type 0 where
  pub first : HasFirst c db
  pub policy : HasRows ⊤ policy_view c.policy (db 15)

-- of the third version
pub record HasThird (c : Content) (db : Trees) : Type 0 where
  pub second : HasSecond c db
  pub operators : HasRows ⊤ operator_view c.operators (db 17)

-- the trees hold this queue in tables of that version
abbrev pub HasQueueOf : Version → World → Trees → Type 0
HasQueueOf first_version w db = HasFirst (numbered_content first_version w) db
HasQueueOf second_version w db = HasSecond (numbered_content second_version w) db
HasQueueOf third_version w db = HasThird (content_of w) db

-- these trees list the tables and indexes of a book, of whatever version, and hold the rows of this sound queue
pub record IsBookOf (w : World) (db : Trees) : Type 0 where
  pub version : Version
  pub fits : IsOf version w
  pub sound : IsSound w
  pub tables : KeepsSchema (schema_of version) db
  pub rows : HasQueueOf version w db

-- each database that a crash may leave holds this queue or that one
abbrev pub LeavesOneOf : World → World → State → Type 0
LeavesOneOf v w s = (db : Trees) → s.may_leave db → IsBookOf v db ⊎ IsBookOf w db

-- the connection is open, its trees list the tables and indexes of a new book, and the tables have these rows
pub record Holds (c : Content) (s : State) : Type 0 where
  pub schema : s.now.schema ≡ book_schema
  pub sound : IsDatabase s.now
  pub rows : HasContent c s.now.trees
  pub live : IsTrue s.is_open

-- the same, as long as the connection is open
abbrev pub HoldsWhileOpen : Content → State → Type 0
HoldsWhileOpen c s = IsTrue s.is_open → Holds c s

-- each of them is the world's job of its number
abbrev pub AreRowsOf : World → List Job → Type 0
AreRowsOf w js = All (λ j. job_at j.number (rows w) ≡ Some j) js

-- the connection is open, and its tables hold no sound queue
pub record HoldNoQueue (s : State) : Type 0 where
  pub live : IsTrue s.is_open
  pub none : (w : World) → IsSound w → ¬ Holds (content_of w) s
