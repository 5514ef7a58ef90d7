use Rattle.std.proofs.Common.{◌≡◌, ◌++◌, drop}
use Rattle.queue_core.specs.World.{rows_of_accounts}
use Rattle.list_book.specs.Lists.{texts}
use Rattle.list_book.specs.Tables.{free_map}
use Rattle.list_book.proofs.expiry.accounts_named.Given as goal

abbrev pub invariant-loop-name : goal.invariant-loop-name
invariant-loop-name l = l.rows.items ++ rows_of_accounts (free_map l.accounts.entries) (texts (drop l.name-index l.names)) ≡ rows_of_accounts (free_map l.accounts.entries) (texts l.names)
