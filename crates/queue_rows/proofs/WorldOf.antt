-- The world that rows stand for, and what ties rows to a world.
use Rattle.std.specs.Prelude.{◌≡◌, ℕ, ℤ, List, [], ◌∷◌, All, map, take, drop}
use Rattle.std.specs.List.{concat, flat_map}
use Rattle.std.specs.FinMap.{entries, from_sorted}
use Rattle.queue_core.specs.World.{World, Entry, rows}
use Rattle.queue_types.specs.declared.document.Document.{Document}
use Rattle.queue_types.specs.declared.event.GrantRow.{GrantRow}
use Rattle.queue_types.specs.declared.event.KeptReport.{KeptReport}
use Rattle.queue_types.specs.declared.job.Job.{Job}
use Rattle.queue_rows.specs.Accounts.{account_before, reserved_for, printed_for}
use Rattle.queue_rows.specs.Documents.{next_of, AreGrouped}
use Rattle.queue_rows.specs.Grants.{grant_before}
use Rattle.queue_rows.specs.Meta.{settings_in}
use Rattle.queue_rows.specs.Versions.{keep_in, operators_in}
use Rattle.queue_rows.specs.Order.{AreInOrder}
use Rattle.queue_rows.specs.Pieces.{pieces_in, pieces_of}
use Rattle.queue_rows.specs.Reports.{report_before}
use Rattle.queue_rows.specs.Rows.{Tables, document_rows, bytes_of_entry}
use Rattle.queue_rows.specs.declared.rows.AccountRow.{AccountRow}
use Rattle.queue_rows.specs.declared.rows.DocumentRow.{DocumentRow}
use Rattle.queue_rows.specs.declared.rows.MetaRow.{MetaRow}
use Rattle.queue_rows.proofs.Filled.{with_group, filled}

-- each document has the bytes of the pieces that stand next
abbrev pub documents_in : List DocumentRow → List (List ℕ) → List Document
documents_in [] bs = []
documents_in (d ∷ ds) bs = record { format = d.format; bytes = concat (take (pieces_in d.octets) bs) } ∷ documents_in ds (drop (pieces_in d.octets) bs)

-- each job has the documents that stand next
abbrev pub entries_in : List Job → List DocumentRow → List Document → List Entry
entries_in [] ds all = []
entries_in (j ∷ js) ds all = record { row = with_group j ds; documents = take (next_of j.number ds) all } ∷ entries_in js (drop (next_of j.number ds) ds) (drop (next_of j.number ds) all)

abbrev pub grant_entry : GrantRow → (List ℕ × List ℕ) × ℕ
grant_entry g = ((g.batch, g.account), g.pages)

abbrev pub free_entry : AccountRow → List ℕ × ℤ
free_entry a = (a.name, a.free)

abbrev pub report_entry : KeptReport → (ℕ × ℕ) × KeptReport
report_entry k = ((k.report.job, k.report.seq), k)

-- bs: the bytes of each piece
abbrev pub world_from : MetaRow → Tables → List (List ℕ) → World
world_from m t bs = record {
  settings = settings_in (keep_in t.policy) (operators_in t.operators) m;
  jobs = entries_in t.jobs t.documents (documents_in t.documents bs);
  next = m.next_number;
  grants = from_sorted (map grant_entry t.grants);
  free = from_sorted (map free_entry t.accounts);
  reports = from_sorted (map report_entry t.reports);
}

-- ---- what ties rows to a world

-- a job's row says nothing of its documents
abbrev pub IsBare : Job → Type 0
IsBare j = (j.documents ≡ 0) × (j.octets ≡ 0)

-- what no world tells of the rows: their order, the numbers of documents and pieces, and the stored sums
pub record FitTogether (t : Tables) : Type 0 where
  pub no_documents : All IsBare t.jobs
  pub grouped : AreGrouped t.jobs t.documents
  pub pieces : t.pieces ≡ flat_map pieces_of t.documents
  pub grants : AreInOrder grant_before t.grants
  pub accounts : AreInOrder account_before t.accounts
  pub reports : AreInOrder report_before t.reports
  pub sums : All (λ a. (a.reserved ≡ reserved_for a.name t.jobs) × (a.printed ≡ printed_for a.name t.jobs)) t.accounts

-- the world has these rows, in this order; bs are the bytes of the pieces
pub record HasRows (w : World) (t : Tables) (bs : List (List ℕ)) : Type 0 where
  pub jobs : rows w ≡ filled t.jobs t.documents
  pub documents : flat_map document_rows w.jobs ≡ t.documents
  pub pieces : flat_map bytes_of_entry w.jobs ≡ bs
  pub grants : entries w.grants ≡ map grant_entry t.grants
  pub free : entries w.free ≡ map free_entry t.accounts
  pub reports : entries w.reports ≡ map report_entry t.reports
