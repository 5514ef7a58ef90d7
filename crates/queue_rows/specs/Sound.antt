-- When rows are those of a sound world, clause by clause over the rows alone.
use Rattle.std.specs.Prelude.{◌≡◌, ℕ, ◌≤◌, ◌^◌, List, [], ◌∷◌, All, IsTrue}
use Rattle.std.specs.List.{flat_map}
use Rattle.queue_core.specs.Grants.{pages_to}
use Rattle.queue_core.specs.Sound.{IsIdle}
use Rattle.queue_core.specs.World.{live_jobs}
use Rattle.queue_types.specs.declared.event.GrantRow.{GrantRow}
use Rattle.queue_types.specs.declared.event.KeptReport.{KeptReport}
use Rattle.queue_types.specs.declared.job.Job.{Job}
use Rattle.queue_rows.specs.Accounts.{account_before, accounts_of, IsBalanced}
use Rattle.queue_rows.specs.Documents.{HasSize, AreGrouped}
use Rattle.queue_rows.specs.Grants.{IsGrantRow, grant_before}
use Rattle.queue_rows.specs.Jobs.{IsJobRow, NumbersRise, has_number}
use Rattle.queue_rows.specs.Meta.{IsSoundMeta}
use Rattle.queue_rows.specs.Order.{AreInOrder}
use Rattle.queue_rows.specs.Pieces.{pieces_of}
use Rattle.queue_rows.specs.Reports.{IsReportRow, report_before, greatest}
use Rattle.queue_rows.specs.Rows.{Tables}
use Rattle.queue_rows.specs.declared.rows.AccountRow.{AccountRow}
use Rattle.queue_rows.specs.declared.rows.DocumentRow.{DocumentRow}
use Rattle.queue_rows.specs.declared.rows.MetaRow.{MetaRow}
use Rattle.queue_rows.specs.declared.rows.PieceRow.{PieceRow}

pub record HaveSoundJobs (js : List Job) (ds : List DocumentRow) (ps : List PieceRow) (next : ℕ) : Type 0 where
  pub rise : NumbersRise 1 js next
  pub last : next ≤ 2 ^ 31
  pub jobs : All IsJobRow js
  -- each document has a job, and a job's documents are numbered from 1
  pub grouped : AreGrouped js ds
  pub sizes : All HasSize ds
  -- each piece has a document, and a document's pieces are numbered from 0, full but the last
  pub pieces : ps ≡ flat_map pieces_of ds

pub record HaveSoundGrants (gs : List GrantRow) (acs : List AccountRow) : Type 0 where
  pub grants : All IsGrantRow gs
  pub grants_order : AreInOrder grant_before gs
  pub accounts_order : AreInOrder account_before acs
  pub most : (a : List ℕ) → pages_to a gs ≤ 1000000000
  -- the accounts are those that have a grant
  pub named : All (λ g. 1 ≤ accounts_of g.account acs) gs
  pub granted : All (λ a. 1 ≤ pages_to a.name gs) acs

pub record HaveSoundReports (rs : List KeptReport) (js : List Job) : Type 0 where
  pub reports : All IsReportRow rs
  pub order : AreInOrder report_before rs
  pub there : All (λ k. IsTrue (has_number k.report.job js)) rs
  pub counts : All (λ j. j.count ≡ greatest j.number rs) js

pub record HaveSoundOwners (js : List Job) (gs : List GrantRow) (acs : List AccountRow) : Type 0 where
  pub live : (caller : List ℕ) → live_jobs caller js ≤ 100
  -- without an account nothing prints
  pub idle : All (λ j. pages_to j.owner gs ≡ 0 → IsIdle j) js
  pub balanced : All (IsBalanced gs js) acs

-- the tables beside `meta`
pub record HaveSoundTables (t : Tables) (next : ℕ) : Type 0 where
  pub jobs : HaveSoundJobs t.jobs t.documents t.pieces next
  pub grants : HaveSoundGrants t.grants t.accounts
  pub reports : HaveSoundReports t.reports t.jobs
  pub owners : HaveSoundOwners t.jobs t.grants t.accounts

pub record AreSoundRows (t : Tables) : Type 0 where
  pub row : MetaRow
  pub only : t.meta ≡ row ∷ []
  pub meta : IsSoundMeta row t.policy t.operators
  pub tables : HaveSoundTables t row.next_number
