use Rattle.std.proofs.Common.{◌≡◌, ◌<◌, ◌+◌, ◌^◌, ◌∷◌, List, arith, rules, subst}
use Rattle.std.specs.Vec.Iter.{into_iter_items}
use Rattle.queue_core.specs.Grants.{pages_to}
use Rattle.queue_types.specs.declared.event.GrantRow.{GrantRow}
use Rattle.list_book.specs.Tables.{total_of}
use Rattle.list_book.proofs.Totals.{pages_first}
use Rattle.list_book.proofs.grants.put_grants.Goals as goal

pub put_grant-requires-clause-fits : goal.put_grant-requires-clause-fits
put_grant-requires-clause-fits c =
    let row : GrantRow = c.in-Some.row in
    let items : into_iter_items c.loop-row.row-iterator ≡ row ∷ into_iter_items c.next.new.self = search rules in
    let all : total_of c.loop-row.accounts.entries row.account + pages_to row.account (row ∷ into_iter_items c.next.new.self) < 2 ^ 32 =
    subst (λ (rows : List GrantRow). total_of c.loop-row.accounts.entries row.account + pages_to row.account rows < 2 ^ 32) items (c.loop-row.invariant.7 row.account) in
    let first = pages_first row (into_iter_items c.next.new.self) in
    omega (arith, all, first)
