-- The content of tables that have these typed rows, and these bytes in their pieces.
use Rattle.std.specs.Prelude.{◌≡◌, ℕ, List, [], ◌∷◌, map, unwrap_or}
use Rattle.sqlite.specs.Order.{Row}
use Rattle.queue_core.specs.World.{World}
use Rattle.queue_rows.specs.Rows.{Tables, rows_of, bytes_of}
use Rattle.queue_rows.specs.declared.rows.PieceRow.{PieceRow}
use Rattle.queue_rows.specs.Versions.{operators_in, third_version}
use Rattle.queue_tables.specs.Content.{Content, content_of}
use Rattle.queue_tables.specs.Values.{meta_values, operator_values, policy_values, job_values, document_values, piece_values, grant_values, report_values}
use Rattle.queue_load.specs.Tells.{account_row_values}

-- each piece beside its bytes
abbrev pub piece_rows_in : List PieceRow → List (List ℕ) → List Row
piece_rows_in [] bs = []
piece_rows_in (p ∷ ps) [] = []
piece_rows_in (p ∷ ps) (b ∷ bs) = piece_values p.job p.doc p.piece b ∷ piece_rows_in ps bs

abbrev pub content_in : Tables → List (List ℕ) → Content
content_in t bs = record {
  meta = map meta_values t.meta;
  jobs = map job_values t.jobs;
  documents = map document_values t.documents;
  pieces = piece_rows_in t.pieces bs;
  accounts = map account_row_values t.accounts;
  grants = map grant_values t.grants;
  reports = map report_values t.reports;
  policy = map policy_values (unwrap_or t.policy []);
  operators = map operator_values (operators_in t.operators);
}

-- the tables of a world are its rows
abbrev pub HaveRows : Type 0
HaveRows = (w : World) → content_of w ≡ content_in (rows_of third_version w) (bytes_of w)
