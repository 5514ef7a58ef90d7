-- The rows of accounts, and what the other tables say of an account.
use Rattle.std.specs.Prelude.{◌≡◌, ℕ, pos, ◌+◌, ◌+ℤ◌, List, bytes_eq, sum_by, if◌then◌else◌, Bool}
use Rattle.std.specs.Ordering.{is_lt}
use Rattle.queue_core.specs.Grants.{pages_to}
pub use Rattle.queue_core.specs.Sound.{reserved_for, printed_for}
use Rattle.queue_core.specs.World.{text_cmp}
use Rattle.queue_types.specs.declared.event.GrantRow.{GrantRow}
use Rattle.queue_types.specs.declared.job.Job.{Job}
use Rattle.queue_rows.specs.declared.rows.AccountRow.{AccountRow}

abbrev pub account_before : AccountRow → AccountRow → Bool
account_before a b = is_lt (text_cmp a.name b.name)

-- how many accounts have that name
abbrev pub accounts_of : List ℕ → List AccountRow → ℕ
accounts_of n accounts = sum_by (λ a. if bytes_eq a.name n then 1 else 0) accounts

-- the stored sums are these, and pages granted are those free, reserved and printed
pub record HasSums (given held done : ℕ) (a : AccountRow) : Type 0 where
  pub reserved : a.reserved ≡ held
  pub printed : a.printed ≡ done
  pub granted : pos given ≡ a.free +ℤ pos (a.reserved + a.printed)

-- they are those of its grants and jobs
abbrev pub IsBalanced : List GrantRow → List Job → AccountRow → Type 0
IsBalanced gs js a = HasSums (pages_to a.name gs) (reserved_for a.name js) (printed_for a.name js) a
