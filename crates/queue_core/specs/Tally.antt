-- What the maps say of the new rows of an account file.
use Rattle.std.specs.Prelude.{◌≡◌, ◌≤◌, ◌+◌, ℕ, ⊤, ◌&&◌, List, [], ◌∷◌, ◌++◌, Bool, bytes_eq, find, option_map, unwrap_or}
use Rattle.std.specs.Borrow.{Bor}
use Rattle.std.specs.HashMap.{HashMap, get, get_by}
use Rattle.queue_core.specs.Grants.{Row, repeated, refused_row, new_row, Taken, all_taken, none_taken, pages_to, free_after}
use Rattle.queue_types.specs.declared.event.FreeRow.{FreeRow}
use Rattle.queue_types.specs.declared.event.GrantRow.{GrantRow}
use Rattle.queue_types.specs.declared.event.KnownGrant.{KnownGrant}
use Rattle.queue_core.specs.declared.grants.Key.{Key}
use Rattle.queue_core.specs.declared.grants.Tally.{Tally}
use Rattle.queue_core.specs.declared.grants.RowState.{RowState}
use Rattle.queue_core.specs.declared.grants.RowState.TheVariants.{Repeated, Refused, New}
use Rattle.queue_core.specs.declared.grants.End.{End}
use Rattle.queue_core.specs.declared.grants.End.TheVariants.{Whole, At}

-- the same batch and the same account
abbrev pub is_same_key : Key → Key → Bool
is_same_key a b = bytes_eq a.batch.now b.batch.now && bytes_eq a.account.now b.account.now

-- the key of that row
abbrev pub is_key_of : GrantRow → Key → Bool
is_key_of r q = bytes_eq r.batch q.batch.now && bytes_eq r.account q.account.now

-- the total of an account, 0 where there is none
abbrev pub total_of : {S : Type 0} → HashMap (Bor (List ℕ)) ℕ S → List ℕ → ℕ
total_of m a = unwrap_or (get_by (λ k. bytes_eq a k.now) m) 0

-- the pages under each batch and account are those of its row
abbrev pub ArePages : {S : Type 0} → HashMap Key ℕ S → List GrantRow → Type 0
ArePages m rows = (q : Key) → get is_same_key m q ≡ option_map (λ g. g.pages) (find (λ g. is_key_of g q) rows)

-- the total of each account is that of its rows
abbrev pub AreTotals : {S : Type 0} → HashMap (Bor (List ℕ)) ℕ S → List GrantRow → Type 0
AreTotals m rows = (a : List ℕ) → total_of m a ≡ pages_to a rows

-- the maps say what the rows are
pub record IsTallied (t : Tally) : Type 0 where
  pub pages : ArePages t.pages t.rows.items
  pub totals : AreTotals t.totals t.rows.items

-- So they do after one row more, of which this became. Of a row that can't be taken nothing is said, as then no row of the file is added.
abbrev pub IsTalliedAfter : Row → Tally → Type 0
IsTalliedAfter repeated t = IsTallied t
IsTalliedAfter (refused_row fault) t = ⊤
IsTalliedAfter new_row t = IsTallied t

abbrev pub row_in : RowState → Row
row_in Repeated = repeated
row_in (Refused fault) = refused_row fault
row_in New = new_row

-- the new rows after one row more, of which this became
abbrev pub rows_after : Row → List GrantRow → GrantRow → List GrantRow
rows_after repeated rows r = rows
rows_after (refused_row fault) rows r = rows
rows_after new_row rows r = rows ++ r ∷ []

-- the free pages of their accounts
abbrev pub free_rows_after : Row → List FreeRow → List GrantRow → GrantRow → KnownGrant → List FreeRow
free_rows_after repeated free rows r k = free
free_rows_after (refused_row fault) free rows r k = free
free_rows_after new_row free rows r k = free ++ free_after r k rows ∷ []

-- how the taking ended, as the machine's definition tells it
abbrev pub taken_at : End → List GrantRow → List FreeRow → Taken
taken_at (Whole repeats) rows free = all_taken rows free repeats
taken_at (At fault row) rows free = none_taken fault row

-- over n rows: the new rows, whose number goes from before to after, and the repeats are n at the most, or the row that can't be taken is one of the n
abbrev pub IsEndWithin : End → ℕ → ℕ → ℕ → Type 0
IsEndWithin (Whole repeats) after before n = after + repeats ≤ before + n
IsEndWithin (At fault row) after before n = (1 ≤ row) × (row ≤ n)
