-- What single statements make of the rows, and the worlds that the tables show between them. Those need not be sound.
use Rattle.std.specs.Prelude.{◌≡◌, ◌⊎◌, All, IsSome, ℕ, ℤ, ◌+ℤ◌, ◌≤◌, ◌<◌, ◌^◌, List, [], ◌∷◌, ◌++◌, Option, Some, None, IfSome, ⊤, Bool, true, false, ◌==◌, ◌&&◌, length, map, filter, fold, if◌then◌else◌}
use Rattle.std.specs.List.{range_with_len, AllByRecursion as Each}
use Rattle.std.specs.FinMap.{get}
use Rattle.sqlite.specs.declared.types.Value.{Value}
use Rattle.sqlite.specs.declared.types.Value.TheVariants.{Null, Int, Real, Text as Words, Blob}
use Rattle.sqlite.specs.Order.{Row, column}
use Rattle.sqlite.specs.Ops.{binary, is_true, fits_i64}
use Rattle.sqlite_sql.specs.declared.ops.BinaryOp.TheVariants.{Compare}
use Rattle.sqlite_sql.specs.declared.ops.CompareOp.TheVariants.{Eq}
use Rattle.sqlite.specs.Collation.TheVariants.{Binary}
use Rattle.queue_types.specs.declared.job.Job.{Job}
use Rattle.queue_types.specs.declared.event.FreeRow.{FreeRow}
use Rattle.queue_types.specs.declared.event.GrantRow.{GrantRow}
use Rattle.queue_types.specs.declared.event.KeptReport.{KeptReport}
use Rattle.queue_core.specs.World.{World, Entry, AreNew, has_number, job_at, rows, with_row, put_free, put_grant, with_report, with_document}
use Rattle.queue_types.specs.Event.{NewDocument}
use Rattle.queue_core.specs.Balance.{AreAmounts}
use Rattle.queue_core.specs.Sound.{reserved, printed}
use Rattle.queue_rows.specs.Pieces.{piece_at}
use Rattle.queue_tables.specs.Kept.{replaced}
use Rattle.queue_tables.specs.Values.{number, job_values, piece_values, account_values}
use Rattle.queue_tables.specs.Content.{Content}
use Rattle.queue_tables.specs.Forms.{AreFormed, IsFormedJob}

-- ---- a new row

abbrev pub with_meta_row : Row → Content → Content
with_meta_row v c = record c { meta = c.meta ++ v ∷ [] }

abbrev pub with_policy_row : Row → Content → Content
with_policy_row v c = record c { policy = c.policy ++ v ∷ [] }

abbrev pub with_operator_row : Row → Content → Content
with_operator_row v c = record c { operators = c.operators ++ v ∷ [] }

abbrev pub without_operators : Content → Content
without_operators c = record c { operators = [] }

abbrev pub with_job_row : Row → Content → Content
with_job_row v c = record c { jobs = c.jobs ++ v ∷ [] }

abbrev pub with_document_row : Row → Content → Content
with_document_row v c = record c { documents = c.documents ++ v ∷ [] }

abbrev pub with_piece_row : Row → Content → Content
with_piece_row v c = record c { pieces = c.pieces ++ v ∷ [] }

abbrev pub with_account_row : Row → Content → Content
with_account_row v c = record c { accounts = c.accounts ++ v ∷ [] }

abbrev pub with_grant_row : Row → Content → Content
with_grant_row v c = record c { grants = c.grants ++ v ∷ [] }

abbrev pub with_report_row : Row → Content → Content
with_report_row v c = record c { reports = c.reports ++ v ∷ [] }

-- the first so many pieces of a document
abbrev pub with_pieces : ℕ → ℕ → List ℕ → ℕ → Content → Content
with_pieces job doc bytes count c = record c { pieces = c.pieces ++ map (λ k. piece_values job doc k (piece_at bytes k)) (range_with_len 0 count) }

-- ---- a row that is put anew

-- the first column is this number
abbrev pub is_numbered : ℕ → Row → Bool
is_numbered n v = is_true (binary (Compare Eq Binary) (column v 0) (number n)) && true

-- the first column is this name
abbrev pub is_named : List ℕ → Row → Bool
is_named name v = is_true (binary (Compare Eq Binary) (column v 0) (Words name)) && true

-- the first two are these numbers: a job's document, or a report of a job
abbrev pub are_numbered : ℕ → ℕ → Row → Bool
are_numbered n m v = is_true (binary (Compare Eq Binary) (column v 0) (number n)) && (is_true (binary (Compare Eq Binary) (column v 1) (number m)) && true)

-- the first three: a piece of a document
abbrev pub is_piece : ℕ → ℕ → ℕ → Row → Bool
is_piece job doc piece v =
    is_true (binary (Compare Eq Binary) (column v 0) (number job)) && (is_true (binary (Compare Eq Binary) (column v 1) (number doc)) && (is_true (binary (Compare Eq Binary) (column v 2) (number piece)) && true))

-- the first two are these names: a batch's grant to an account
abbrev pub is_granted : List ℕ → List ℕ → Row → Bool
is_granted batch account v = is_true (binary (Compare Eq Binary) (column v 0) (Words batch)) && (is_true (binary (Compare Eq Binary) (column v 1) (Words account)) && true)

abbrev pub with_job_anew : Job → Content → Content
with_job_anew j c = record c { jobs = replaced (is_numbered j.number) (λ v. job_values j) c.jobs }

-- one row has the number, and it is a job's
pub record HasJob (n : ℕ) (c : Content) : Type 0 where
  pub job : Job
  pub once : filter (is_numbered n) c.jobs ≡ job_values job ∷ []
  pub numbered : job.number ≡ n

-- the account has one row
pub record HasAccount (name : List ℕ) (c : Content) : Type 0 where
  pub named : List ℕ
  pub free : ℤ
  pub set_aside : ℤ
  pub done : ℤ
  pub once : filter (is_named name) c.accounts ≡ account_values named free set_aside done ∷ []

-- pages added to those of a row
abbrev pub plus : ℤ → Value → Value
plus n (Int m) = Int (m +ℤ n)
plus n Null = Null
plus n (Real x) = Real x
plus n (Words t) = Words t
plus n (Blob b) = Blob b

abbrev pub with_sums : List ℕ → ℤ → ℤ → Content → Content
with_sums name set_aside done c = record c { accounts = replaced (is_named name) (λ v. column v 0 ∷ column v 1 ∷ plus set_aside (column v 2) ∷ plus done (column v 3) ∷ []) c.accounts }

-- there is no such account, or its sums stay within 64 bits
abbrev pub CanAdd : List ℕ → ℤ → ℤ → Content → Type 0
CanAdd name set_aside done c =
    (filter (is_named name) c.accounts ≡ [])
    ⊎ ((it : HasAccount name c) × (fits_i64 (it.set_aside +ℤ set_aside) ≡ true) × (fits_i64 (it.done +ℤ done) ≡ true))

-- ---- worlds between two statements

-- nothing of its documents
abbrev pub bare : Job → Job
bare j = record j { documents = 0; octets = 0 }

-- no number stands twice
abbrev pub AreDistinct : List Entry → Type 0
AreDistinct [] = ⊤
AreDistinct (e ∷ es) = (has_number e.row.number es ≡ false) × AreDistinct es

-- what keeps the sums of the accounts within 64 bits
pub record IsSummable (es : List Entry) : Type 0 where
  pub distinct : AreDistinct es
  pub amounts : Each (λ e. AreAmounts e.row) es
  pub few : length es ≤ 2 ^ 31

-- no pages are reserved or printed of an owner without an account
abbrev pub AreCovered : World → Type 0
AreCovered w = (a : List ℕ) → get w.free a ≡ None → (reserved a w ≡ 0) × (printed a w ≡ 0)

abbrev pub with_put : Job → World → World
with_put j w = record w { jobs = with_row w.jobs j }

abbrev pub with_puts : List Job → World → World
with_puts js w = record w { jobs = fold with_row w.jobs js }

abbrev pub with_free : FreeRow → World → World
with_free a w = record w { free = put_free w.free a }

abbrev pub with_frees : List FreeRow → World → World
with_frees rows w = record w { free = fold put_free w.free rows }

abbrev pub with_grants : List GrantRow → World → World
with_grants gs w = record w { grants = fold put_grant w.grants gs }

abbrev pub with_kept : Option KeptReport → World → World
with_kept k w = record w { reports = with_report w.reports k }

abbrev pub with_operators : List (List ℕ) → World → World
with_operators operators w = record w { settings = record w.settings { operators = operators } }

abbrev pub with_next : ℕ → World → World
with_next n w = record w { next = n }

abbrev pub with_added : Option NewDocument → World → World
with_added d w = record w { jobs = with_document w.jobs d }

-- each report stands under its job and sequence number
abbrev pub AreReportsKeyed : World → Type 0
AreReportsKeyed w = (job seq : ℕ) → IfSome (get w.reports (job, seq)) (λ k. (k.report.job ≡ job) × (k.report.seq ≡ seq))

-- how many documents the job of that number has
abbrev pub document_count_at : ℕ → List Entry → ℕ
document_count_at n [] = 0
document_count_at n (e ∷ es) = if e.row.number == n then length e.documents else document_count_at n es

-- the document can be added: no job number stands twice, its job is there, with fewer than sixteen documents, and it is no longer than one may be
pub record CanTake (d : NewDocument) (w : World) : Type 0 where
  pub distinct : AreDistinct w.jobs
  pub job : Job
  pub there : job_at d.job (rows w) ≡ Some job
  pub few : document_count_at d.job w.jobs < 16
  pub short : length d.bytes ≤ 16777216

-- the code can hold the rows of the jobs, and their sums stay within 64 bits; and so it is with these jobs put
pub record CanPut (js : List Job) (w : World) : Type 0 where
  pub summable : IsSummable w.jobs
  pub formed : AreFormed w.jobs
  pub amounts : All (λ j. AreAmounts j × IsFormedJob j) js
  pub few : length (fold with_row w.jobs js) ≤ 2 ^ 31

-- the accounts of the grants are there, and none of the grants is
pub record CanGrant (gs : List GrantRow) (w : World) : Type 0 where
  pub fresh : AreNew w.grants gs
  pub accounts : All (λ g. IsSome (get w.free g.account)) gs

-- the report can be kept: no job number stands twice, reports stand under their jobs and sequence numbers, its job is there, and none is kept
-- under its own
pub record CanKeep (k : KeptReport) (w : World) : Type 0 where
  pub distinct : AreDistinct w.jobs
  pub keyed : AreReportsKeyed w
  pub fresh : get w.reports (k.report.job, k.report.seq) ≡ None
  pub there : IsSome (job_at k.report.job (rows w))
