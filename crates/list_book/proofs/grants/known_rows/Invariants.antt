use Rattle.std.proofs.Common.{◌≡◌, map, take}
use Rattle.list_book.specs.Tables.{known_in}
use Rattle.list_book.proofs.grants.known_rows.Given as goal

abbrev pub invariant-loop-row : goal.invariant-loop-row
invariant-loop-row l = l.known.items ≡ map (known_in l.grants.entries l.accounts.entries) (take l.row-index l.rows)
