-- Which value tells of the columns that a SELECT shows, and which columns no value within the widths of its fields tells of.
use Rattle.std.specs.Prelude.{◌≡◌, ◌≢◌, ◌<◌, ◌^◌, ℕ, pos, List, length}
use Rattle.std.specs.Str.{IsUtf8}
use Rattle.sqlite.specs.Order.{Row}
use Rattle.queue_types.specs.declared.event.GrantRow.{GrantRow}
use Rattle.queue_types.specs.declared.event.KeptReport.{KeptReport}
use Rattle.queue_types.specs.declared.job.Job.{Job}
use Rattle.queue_rows.specs.declared.rows.AccountRow.{AccountRow}
use Rattle.queue_rows.specs.declared.rows.DocumentRow.{DocumentRow}
use Rattle.queue_rows.specs.declared.rows.MetaRow.{MetaRow}
use Rattle.queue_rows.specs.declared.rows.PieceRow.{PieceRow}
use Rattle.queue_rows.specs.declared.rows.PolicyRow.{PolicyRow}
use Rattle.queue_tables.specs.Forms.{IsFormedJob}
use Rattle.queue_tables.specs.Values.{meta_values, operator_values, policy_values, job_values, document_values, piece_values, account_values, grant_values, report_values}

-- ---- meta

abbrev pub TellsMeta : MetaRow → Row → Type 0
TellsMeta m r = length r ≡ 7 → r ≡ meta_values m

pub record IsFormedMeta (m : MetaRow) : Type 0 where
  pub one : m.one < 2 ^ 32
  pub schema : m.schema < 2 ^ 32
  pub uri : IsUtf8 m.uri
  pub name : IsUtf8 m.name
  pub estimate : m.estimate < 2 ^ 32
  pub next_number : m.next_number < 2 ^ 32

abbrev pub IsNoMeta : Row → Type 0
IsNoMeta r = (m : MetaRow) → IsFormedMeta m → r ≢ meta_values m

-- ---- policy

abbrev pub TellsPolicy : PolicyRow → Row → Type 0
TellsPolicy p r = length r ≡ 2 → r ≡ policy_values p

pub record IsFormedPolicy (p : PolicyRow) : Type 0 where
  pub one : p.one < 2 ^ 32
  pub keep : p.keep < 2 ^ 32

abbrev pub IsNoPolicy : Row → Type 0
IsNoPolicy r = (p : PolicyRow) → IsFormedPolicy p → r ≢ policy_values p

-- ---- operators

abbrev pub TellsOperator : List ℕ → Row → Type 0
TellsOperator name r = length r ≡ 1 → r ≡ operator_values name

abbrev pub IsFormedOperator : List ℕ → Type 0
IsFormedOperator name = IsUtf8 name

abbrev pub IsNoOperator : Row → Type 0
IsNoOperator r = (name : List ℕ) → IsFormedOperator name → r ≢ operator_values name

-- ---- jobs

-- a row says nothing of the job's documents
abbrev pub TellsJob : Job → Row → Type 0
TellsJob j r = (length r ≡ 14 → r ≡ job_values j) × (j.documents ≡ 0) × (j.octets ≡ 0)

abbrev pub IsNoJob : Row → Type 0
IsNoJob r = (j : Job) → IsFormedJob j → r ≢ job_values j

-- ---- documents

abbrev pub TellsDocument : DocumentRow → Row → Type 0
TellsDocument d r = length r ≡ 4 → r ≡ document_values d

pub record IsFormedDocument (d : DocumentRow) : Type 0 where
  pub job : d.job < 2 ^ 32
  pub doc : d.doc < 2 ^ 32
  pub octets : d.octets < 2 ^ 32

abbrev pub IsNoDocument : Row → Type 0
IsNoDocument r = (d : DocumentRow) → IsFormedDocument d → r ≢ document_values d

-- ---- pieces, of whose bytes only the length is told

pub record IsPiece (p : PieceRow) (r : Row) : Type 0 where
  pub bytes : List ℕ
  pub is : r ≡ piece_values p.job p.doc p.piece bytes
  pub long : length bytes ≡ p.length

abbrev pub TellsPiece : PieceRow → Row → Type 0
TellsPiece p r = length r ≡ 4 → IsPiece p r

pub record IsFormedPiece (p : PieceRow) : Type 0 where
  pub job : p.job < 2 ^ 32
  pub doc : p.doc < 2 ^ 32
  pub piece : p.piece < 2 ^ 32
  pub length : p.length < 2 ^ 32

abbrev pub IsNoPiece : Row → Type 0
IsNoPiece r = (p : PieceRow) → IsFormedPiece p → ¬ IsPiece p r

-- ---- accounts

abbrev pub account_row_values : AccountRow → Row
account_row_values a = account_values a.name a.free (pos a.reserved) (pos a.printed)

abbrev pub TellsAccount : AccountRow → Row → Type 0
TellsAccount a r = length r ≡ 4 → r ≡ account_row_values a

abbrev pub IsFormedAccount : AccountRow → Type 0
IsFormedAccount a = IsUtf8 a.name

abbrev pub IsNoAccount : Row → Type 0
IsNoAccount r = (a : AccountRow) → IsFormedAccount a → r ≢ account_row_values a

-- ---- grants

abbrev pub TellsGrant : GrantRow → Row → Type 0
TellsGrant g r = length r ≡ 3 → r ≡ grant_values g

pub record IsFormedGrant (g : GrantRow) : Type 0 where
  pub batch : IsUtf8 g.batch
  pub account : IsUtf8 g.account
  pub pages : g.pages < 2 ^ 32

abbrev pub IsNoGrant : Row → Type 0
IsNoGrant r = (g : GrantRow) → IsFormedGrant g → r ≢ grant_values g

-- ---- reports

abbrev pub TellsReport : KeptReport → Row → Type 0
TellsReport k r = length r ≡ 6 → r ≡ report_values k

pub record IsFormedReport (k : KeptReport) : Type 0 where
  pub job : k.report.job < 2 ^ 32
  pub seq : k.report.seq < 2 ^ 32
  pub count : k.report.count < 2 ^ 32
  pub total : k.total < 2 ^ 32

abbrev pub IsNoReport : Row → Type 0
IsNoReport r = (k : KeptReport) → IsFormedReport k → r ≢ report_values k
