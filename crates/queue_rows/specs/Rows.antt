-- The rows that a queue has: what each table holds, in the order of its key.
use Rattle.std.specs.Prelude.{◌≡◌, ◌≢◌, ℕ, ℤ, List, [], ◌∷◌, map, length, Option, option_map}
use Rattle.std.specs.List.{flat_map}
use Rattle.std.specs.FinMap.{entries}
use Rattle.queue_core.specs.Sound.{IsSound, reserved, printed}
use Rattle.queue_core.specs.World.{World, Entry}
use Rattle.queue_types.specs.declared.event.GrantRow.{GrantRow}
use Rattle.queue_types.specs.declared.event.KeptReport.{KeptReport}
use Rattle.queue_types.specs.declared.job.Job.{Job}
use Rattle.queue_rows.specs.Documents.{documents_from}
use Rattle.queue_rows.specs.Pieces.{pieces_of, cut_up, length_in}
use Rattle.queue_rows.specs.Versions.{IsOf, Version, number_of, operator_rows, policy_rows}
use Rattle.queue_rows.specs.declared.rows.AccountRow.{AccountRow}
use Rattle.queue_rows.specs.declared.rows.DocumentRow.{DocumentRow}
use Rattle.queue_rows.specs.declared.rows.MetaRow.{MetaRow}
use Rattle.queue_rows.specs.declared.rows.PieceRow.{PieceRow}
use Rattle.queue_rows.specs.declared.rows.PolicyRow.{PolicyRow}
use Rattle.queue_rows.specs.declared.rows.Rows.{Rows}

pub record Tables : Type 0 where
  pub meta : List MetaRow
  pub jobs : List Job
  pub documents : List DocumentRow
  -- of a piece's bytes only the length
  pub pieces : List PieceRow
  pub accounts : List AccountRow
  pub grants : List GrantRow
  pub reports : List KeptReport
  -- none where there is no such table
  pub policy : Option (List PolicyRow)
  -- the names in the order of their bytes; none where there is no such table
  pub operators : Option (List (List ℕ))

abbrev pub tables_in : Rows → Tables
tables_in r = record {
  meta = r.meta.items;
  jobs = r.jobs.items;
  documents = r.documents.items;
  pieces = r.pieces.items;
  accounts = r.accounts.items;
  grants = r.grants.items;
  reports = r.reports.items;
  policy = option_map (λ v. v.items) r.policy;
  operators = option_map (λ v. v.items) r.operators;
}

-- ---- of a queue

abbrev pub meta_row : Version → World → MetaRow
meta_row n w = record {
  one = 1;
  schema = number_of n;
  uri = w.settings.uri;
  name = w.settings.name;
  estimate = w.settings.estimate;
  epoch = w.settings.epoch;
  next_number = w.next;
}

-- a job's row says nothing of its documents
abbrev pub job_row : Entry → Job
job_row e = record e.row { documents = 0; octets = 0 }

abbrev pub document_rows : Entry → List DocumentRow
document_rows e = documents_from e.row.number 1 e.documents

-- with what the jobs' rows sum up to
abbrev pub account_row : World → List ℕ × ℤ → AccountRow
account_row w a = record { name = a.0; free = a.1; reserved = reserved a.0 w; printed = printed a.0 w }

abbrev pub grant_row : (List ℕ × List ℕ) × ℕ → GrantRow
grant_row g = record { batch = g.0.0; account = g.0.1; pages = g.1 }

abbrev pub report_row : (ℕ × ℕ) × KeptReport → KeptReport
report_row r = r.1

-- in tables of that version
abbrev pub rows_of : Version → World → Tables
rows_of n w = record {
  meta = meta_row n w ∷ [];
  jobs = map job_row w.jobs;
  documents = flat_map document_rows w.jobs;
  pieces = flat_map pieces_of (flat_map document_rows w.jobs);
  accounts = map (account_row w) (entries w.free);
  grants = map grant_row (entries w.grants);
  reports = map report_row (entries w.reports);
  policy = policy_rows n w.settings.keep;
  operators = operator_rows n w.settings.operators;
}

abbrev pub bytes_of_entry : Entry → List (List ℕ)
bytes_of_entry e = flat_map (λ d. cut_up d.bytes) e.documents

-- the bytes of each piece
abbrev pub bytes_of : World → List (List ℕ)
bytes_of w = flat_map bytes_of_entry w.jobs

-- ---- of a sound queue

-- a sound world has these rows, and these bytes in its pieces
pub record HaveWorld (t : Tables) (bs : List (List ℕ)) : Type 0 where
  pub world : World
  pub sound : IsSound world
  pub version : Version
  pub fits : IsOf version world
  pub rows : rows_of version world ≡ t
  pub bytes : bytes_of world ≡ bs

-- whatever the bytes of the pieces are, of the lengths that the rows say
abbrev pub StandForSoundWorlds : Tables → Type 0
StandForSoundWorlds t = (bs : List (List ℕ)) → map length bs ≡ map length_in t.pieces → HaveWorld t bs

abbrev pub StandForNoSoundWorld : Tables → Type 0
StandForNoSoundWorld t = (n : Version) (w : World) → IsSound w → IsOf n w → rows_of n w ≢ t
