-- What the tables of the book in lists stand for: accounts by name, and grants by batch and account.
use Rattle.std.specs.Prelude.{ℕ, ℤ, List, IsSome, map, option_map, unwrap_or, bytes_eq}
use Rattle.std.specs.List.{AllByRecursion as Each}
use Rattle.std.specs.FinMap.{FinMap, from_entries, get}
use Rattle.std.specs.Map.{lookup}
use Rattle.queue_core.specs.World.{text_cmp, grant_cmp}
use Rattle.queue_types.specs.declared.event.GrantRow.{GrantRow}
use Rattle.queue_types.specs.declared.event.KnownGrant.{KnownGrant}
use Rattle.list_book.specs.declared.accounts.Account.{Account}

abbrev pub Accounts : Type 0
Accounts = List (List ℕ × Account)

abbrev pub Grants : Type 0
Grants = List ((List ℕ × List ℕ) × ℕ)

-- the accounts with their free pages
abbrev pub free_rows : Accounts → List (List ℕ × ℤ)
free_rows es = map (λ e. (e.0, e.1.free)) es

abbrev pub free_map : Accounts → FinMap text_cmp ℤ
free_map es = from_entries (free_rows es)

abbrev pub grants_map : Grants → FinMap grant_cmp ℕ
grants_map = from_entries

-- the pages that were granted to the account in all
abbrev pub total_of : Accounts → List ℕ → ℕ
total_of es a = unwrap_or (option_map (λ x. x.granted) (lookup (bytes_eq a) es)) 0

-- what the tables know of an account file's row
abbrev pub known_in : Grants → Accounts → GrantRow → KnownGrant
known_in grants accounts g = record {
  pages = get (grants_map grants) (g.batch, g.account);
  granted = total_of accounts g.account;
  free = get (free_map accounts) g.account;
}

-- each of these grants is to an account that is there
abbrev pub HaveAccounts : FinMap text_cmp ℤ → List GrantRow → Type 0
HaveAccounts free rows = Each (λ g. IsSome (get free g.account)) rows
