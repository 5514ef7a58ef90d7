-- How the rows of an account file are taken: in order, all of them or none.
use Rattle.std.specs.Prelude.{ℕ, pos, ◌+ℤ◌, ◌+◌, unwrap_or, ◌==◌, ◌&&◌, List, [], ◌∷◌, ◌++◌, Option, Bool, false, bytes_eq, find, option_map, sum_by, nat_lt, is_some, if◌then◌else◌}
use Rattle.std.specs.Option.{option_map_or}
use Rattle.queue_types.specs.declared.event.GrantRefusal.{GrantRefusal}
use Rattle.queue_types.specs.declared.event.GrantRefusal.TheVariants.{Conflict, TooMany}
use Rattle.queue_types.specs.declared.event.FreeRow.{FreeRow}
use Rattle.queue_types.specs.declared.event.KnownGrant.{KnownGrant}
use Rattle.queue_types.specs.declared.event.GrantRow.{GrantRow}

-- the first of these rows under the row's batch and account
abbrev pub row_under : GrantRow → List GrantRow → Option GrantRow
row_under r rows = find (λ g. bytes_eq g.batch r.batch && bytes_eq g.account r.account) rows

-- the pages of these rows that go to the account
abbrev pub pages_to : List ℕ → List GrantRow → ℕ
pages_to a rows = sum_by (λ g. if bytes_eq g.account a then g.pages else 0) rows

-- the pages that stand under the row's batch and account, before the file or by these rows of it
abbrev pub pages_under : GrantRow → KnownGrant → List GrantRow → Option ℕ
pages_under r k new = if is_some k.pages then k.pages else option_map (λ g. g.pages) (row_under r new)

-- an account has at most 1,000,000,000 pages granted
abbrev pub is_too_many : GrantRow → KnownGrant → List GrantRow → Bool
is_too_many r k new = nat_lt 1000000000 (k.granted + pages_to r.account new + r.pages)

-- the free pages of the row's account once it has the pages of these new rows and of this one
abbrev pub free_after : GrantRow → KnownGrant → List GrantRow → FreeRow
free_after r k new = record { account = r.account; free = unwrap_or k.free (pos 0) +ℤ pos (pages_to r.account new + r.pages) }

-- what becomes of a row after these new ones: it equals one accepted before; it can't be taken; or it is new
pub data Row : Type 0 where
  repeated : Row
  refused_row : GrantRefusal → Row
  new_row : Row

abbrev pub row_of : GrantRow → KnownGrant → List GrantRow → Row
row_of r k new =
    if option_map_or (λ n. n == r.pages) (pages_under r k new) false then repeated
    else (if is_some (pages_under r k new) then refused_row Conflict
    else (if is_too_many r k new then refused_row TooMany else new_row))

-- the new rows in order, what is free in the account of each after it, and how many rows equal one before; or the first
-- row, counted from 1, that can't be taken
pub data Taken : Type 0 where
  all_taken : List GrantRow → List FreeRow → ℕ → Taken
  none_taken : GrantRefusal → ℕ → Taken

abbrev pub add_row : Row → GrantRow → KnownGrant → ℕ → (List GrantRow → List FreeRow → ℕ → Taken) → List GrantRow → List FreeRow → ℕ → Taken
add_row repeated r k n rest new free repeats = rest new free (repeats + 1)
add_row (refused_row refusal) r k n rest new free repeats = none_taken refusal n
add_row new_row r k n rest new free repeats = rest (new ++ r ∷ []) (free ++ free_after r k new ∷ []) repeats

-- the rows from number n on, each beside what is known of it, after these new rows (a scene knows something of each row, by known_of)
abbrev pub take_rows : List GrantRow → List KnownGrant → ℕ → List GrantRow → List FreeRow → ℕ → Taken
take_rows [] known n new free repeats = all_taken new free repeats
take_rows (r ∷ rows) [] n new free repeats = all_taken new free repeats
take_rows (r ∷ rows) (k ∷ known) n new free repeats = add_row (row_of r k new) r k n (take_rows rows known (n + 1)) new free repeats
