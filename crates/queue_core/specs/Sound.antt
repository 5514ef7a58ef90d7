-- When a world is sound: its limits, and the account equation.
use Rattle.std.specs.Prelude.{◌≡◌, ℕ, pos, ◌+ℤ◌, ◌+◌, ◌^◌, ◌≤◌, List, [], ◌∷◌, None, sum_by, IsSome, IsSomeAnd, is_some, ◌↔◌, IfSome, length, bytes_eq, ◌||◌, ◌⊎◌, IsTrue, if◌then◌else◌}
use Rattle.std.specs.List.{AllByRecursion as Each}
use Rattle.std.specs.FinMap.{get}
use Rattle.queue_types.specs.Settings.{AreSettings}
use Rattle.queue_types.specs.Job.{owed}
use Rattle.queue_core.specs.World.{World, Entry, rows, live_jobs, job_at, granted}
use Rattle.queue_core.specs.Limits.{IsPositive, IsGrant, IsSoundJob}
use Rattle.queue_types.specs.declared.job.Job.{Job}
use Rattle.queue_types.specs.declared.document.Document.{Document}
use Rattle.queue_types.specs.declared.event.KeptReport.{KeptReport}

-- ---- jobs with their documents

abbrev pub IsSoundDocument : Document → Type 0
IsSoundDocument d = (1 ≤ length d.bytes) × (length d.bytes ≤ 16777216)

-- the row tells of the documents
pub record IsSoundEntry (e : Entry) : Type 0 where
  pub row : IsSoundJob e.row
  pub documents : e.row.documents ≡ length e.documents
  pub octets : e.row.octets ≡ sum_by (λ d. length d.bytes) e.documents
  pub sizes : Each IsSoundDocument e.documents

-- the numbers rise, from the first on, and stay below the next
abbrev pub Rise : ℕ → List Entry → ℕ → Type 0
Rise first [] next = first ≤ next
Rise first (e ∷ es) next = (first ≤ e.row.number) × Rise (e.row.number + 1) es next

-- ---- the account equation, over the rows as they now are

-- the pages that are set aside for that owner's jobs
abbrev pub reserved_for : List ℕ → List Job → ℕ
reserved_for a js = sum_by (λ j. if bytes_eq j.owner a then owed j else 0) js

-- the pages that they have printed
abbrev pub printed_for : List ℕ → List Job → ℕ
printed_for a js = sum_by (λ j. if bytes_eq j.owner a then j.count else 0) js

abbrev pub reserved : List ℕ → World → ℕ
reserved a w = reserved_for a (rows w)

abbrev pub printed : List ℕ → World → ℕ
printed a w = printed_for a (rows w)

-- in each account, pages granted are those that are free, reserved and printed
abbrev pub Balances : World → Type 0
Balances w = (a : List ℕ) → IfSome (get w.free a) (λ free. pos (granted a w) ≡ free +ℤ pos (reserved a w + printed a w))

-- ---- reports

-- a kept report of that job and sequence number
pub record IsKept (w : World) (n m : ℕ) (k : KeptReport) : Type 0 where
  pub job : k.report.job ≡ n
  pub seq : k.report.seq ≡ m
  pub there : IsSome (job_at n (rows w))
  pub positive : IsPositive m
  pub count : k.report.count ≤ 100000000
  pub total : k.total ≤ 100000000

-- the greatest count that was reported of a job, 0 without a report
abbrev pub IsGreatestCount : World → Job → Type 0
IsGreatestCount w j =
    ((seq : ℕ) → IfSome (get w.reports (j.number, seq)) (λ k. k.report.count ≤ j.count))
    × ((j.count ≡ 0) ⊎ ((seq : ℕ) × IsSomeAnd (get w.reports (j.number, seq)) (λ k. k.report.count ≡ j.count)))

-- it never began, has no count, and is on hold or ended
abbrev pub IsIdle : Job → Type 0
IsIdle j = (j.begun ≡ None) × (j.count ≡ 0) × IsTrue (j.hold || is_some j.ended)

-- ---- the whole

pub record IsSound (w : World) : Type 0 where
  pub settings : AreSettings w.settings
  pub numbers : Rise 1 w.jobs w.next
  pub next : w.next ≤ 2 ^ 31
  pub entries : Each IsSoundEntry w.jobs
  pub live : (caller : List ℕ) → live_jobs caller (rows w) ≤ 100
  pub grants : (batch account : List ℕ) → IfSome (get w.grants (batch, account)) (IsGrant batch account)
  pub most : (a : List ℕ) → granted a w ≤ 1000000000
  -- the accounts are those that have a grant
  pub accounts : (a : List ℕ) → IsSome (get w.free a) ↔ ((batch : List ℕ) × IsSome (get w.grants (batch, a)))
  pub reports : (job seq : ℕ) → IfSome (get w.reports (job, seq)) (IsKept w job seq)
  pub counts : Each (λ e. IsGreatestCount w e.row) w.jobs
  -- without an account nothing prints
  pub idle : Each (λ e. get w.free e.row.owner ≡ None → IsIdle e.row) w.jobs
  pub balances : Balances w
