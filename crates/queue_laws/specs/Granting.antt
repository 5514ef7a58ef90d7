-- What the rows of an account file are about.
use Rattle.std.specs.Prelude.{◌≡◌, ℕ, ℤ, pos, List, Bool, Some, ◌&&◌, bytes_eq, unwrap_or}
use Rattle.std.specs.FinMap.{FinMap, get}
use Rattle.std.specs.List.{list_any}
use Rattle.queue_core.specs.World.{World, grant_cmp}
use Rattle.queue_types.specs.declared.event.GrantRow.{GrantRow}

-- the row's pages are granted under its batch to its account
abbrev pub IsGranted : FinMap grant_cmp ℕ → GrantRow → Type 0
IsGranted grants g = get grants (g.batch, g.account) ≡ Some g.pages

-- a row is under that batch and account
abbrev pub is_named : List ℕ → List ℕ → List GrantRow → Bool
is_named batch account rows = list_any (λ g. bytes_eq g.batch batch && bytes_eq g.account account) rows

-- a row is for that account
abbrev pub is_account_of : List ℕ → List GrantRow → Bool
is_account_of account rows = list_any (λ g. bytes_eq g.account account) rows

-- the account's free pages, 0 where it is not there
abbrev pub free_pages : List ℕ → World → ℤ
free_pages account w = unwrap_or (get w.free account) (pos 0)
