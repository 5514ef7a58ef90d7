-- What the lists and tables of the book stand for.
use Rattle.std.specs.Prelude.{ℕ, ℤ, ◌-◌, nat_lt, slice_get, fold, ◌≡◌, ◌≤◌, ◌+◌, List, [], ◌∷◌, ◌++◌, Option, None, Some, map, ◌==◌, if◌then◌else◌, Bool, vec_len, vec_capacity}
use Rattle.std.specs.FinMap.{FinMap, from_entries}
use Rattle.std.specs.HashMap.{spare}
use Rattle.queue_types.specs.Event.{NewDocument}
pub use Rattle.queue_types.specs.Text.{texts}
use Rattle.queue_core.specs.Shown.{charged_to}
use Rattle.queue_core.specs.Sound.{IsSound, printed_for, reserved_for}
use Rattle.queue_core.specs.World.{World, Entry, granted_in, report_cmp, job_at}
use Rattle.queue_types.specs.declared.job.Job.{Job}
use Rattle.queue_types.specs.declared.document.Document.{Document}
use Rattle.list_book.specs.declared.lists.KeptDocument.{KeptDocument}
use Rattle.queue_types.specs.declared.event.KeptReport.{KeptReport}
use Rattle.queue_types.specs.declared.sheet.AccountSheet.{AccountSheet}
use Rattle.list_book.specs.declared.lists.Lists.{Lists}
use Rattle.list_book.specs.Tables.{free_map, grants_map, total_of}

-- x in the place of the first item that is the same, else at the end
abbrev pub put_by : {X : Type 0} → (X → Bool) → X → List X → List X
put_by same x [] = x ∷ []
put_by same x (y ∷ ys) = if same y then x ∷ ys else y ∷ put_by same x ys

abbrev pub put_row : List Job → Job → List Job
put_row js j = put_by (λ y. y.number == j.number) j js

-- each in turn
abbrev pub put_rows : List Job → List Job → List Job
put_rows js xs = fold put_row js xs

abbrev pub kept_of : NewDocument → KeptDocument
kept_of d = record { job = d.job; document = record { format = d.format; bytes = d.bytes } }

-- that job's documents, in the order in which they came
abbrev pub documents_of : ℕ → List KeptDocument → List Document
documents_of n [] = []
documents_of n (d ∷ ds) = if d.job == n then d.document ∷ documents_of n ds else documents_of n ds

-- document n of the job, from 1
abbrev pub nth_of : ℕ → ℕ → List KeptDocument → Option Document
nth_of job n ds = if nat_lt 0 n then slice_get (documents_of job ds) (n - 1) else None

abbrev pub entry_of : List KeptDocument → Job → Entry
entry_of ds j = record { row = j; documents = documents_of j.number ds }

abbrev pub entries_of : List KeptDocument → List Job → List Entry
entries_of ds js = map (entry_of ds) js

-- the reports that a table by job and sequence number has
abbrev pub reports_map : List ((ℕ × ℕ) × KeptReport) → FinMap report_cmp KeptReport
reports_map = from_entries

abbrev pub world_of : Lists → World
world_of l = record { settings = l.settings; jobs = entries_of l.documents.items l.jobs.items; next = l.next; grants = grants_map l.grants.entries; free = free_map l.accounts.entries; reports = reports_map l.reports.entries }

-- the world is what the lists hold, and is sound
abbrev pub IsContent : World → World → Type 0
IsContent held w = (held ≡ w) × IsSound w

-- what is counted to each account is what was granted to it
abbrev pub AreTotals : Lists → Type 0
AreTotals l = (a : List ℕ) → total_of l.accounts.entries a ≡ granted_in a (grants_map l.grants.entries)

-- the sheet of an account with these free pages
abbrev pub sheet_in : Lists → List ℕ → ℤ → AccountSheet
sheet_in l a free = record {
  account = a;
  granted = total_of l.accounts.entries a;
  free = free;
  reserved = reserved_for a l.jobs.items;
  printed = printed_for a l.jobs.items;
  jobs = charged_to a l.jobs.items;
}

-- a number that no job has has no documents
abbrev pub IsTidy : List Job → List KeptDocument → Type 0
IsTidy js ds = (n : ℕ) → job_at n js ≡ None → documents_of n ds ≡ []

abbrev pub with_kept : List KeptDocument → Option KeptDocument → List KeptDocument
with_kept ds None = ds
with_kept ds (Some d) = ds ++ d ∷ []

-- the same items and the same in each table, with whatever room
pub record HaveSameItems (l m : Lists) : Type 0 where
  pub settings : m.settings ≡ l.settings
  pub jobs : m.jobs.items ≡ l.jobs.items
  pub documents : m.documents.items ≡ l.documents.items
  pub next : m.next ≡ l.next
  pub free : free_map m.accounts.entries ≡ free_map l.accounts.entries
  pub totals : (a : List ℕ) → total_of m.accounts.entries a ≡ total_of l.accounts.entries a
  pub grants : grants_map m.grants.entries ≡ grants_map l.grants.entries
  pub reports : reports_map m.reports.entries ≡ reports_map l.reports.entries

-- places for so many jobs, accounts and grants, and for a document and a report
pub record HasRoom (l : Lists) (jobs accounts grants : ℕ) : Type 0 where
  pub jobs_fit : vec_len l.jobs + jobs ≤ vec_capacity l.jobs
  pub accounts_fit : accounts ≤ spare l.accounts
  pub grants_fit : grants ≤ spare l.grants
  pub document_fits : vec_len l.documents + 1 ≤ vec_capacity l.documents
  pub report_fits : 1 ≤ spare l.reports
