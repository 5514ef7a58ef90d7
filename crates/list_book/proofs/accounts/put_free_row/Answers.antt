use Rattle.std.proofs.Common.{ap, arith, rules}
use Rattle.std.proofs.lemmas.Int.{to_z-of_z}
use Rattle.list_book.proofs.Keyed.{free_put, with_free}
use Rattle.list_book.proofs.accounts.put_free_row.Goals as goal

pub returns-in-Some-clause-free : goal.returns-in-Some-clause-free
returns-in-Some-clause-free c =
    let e = free_put c.args.accounts.now.entries _ c.from_text-name.result (with_free c.in-Some.account.now c.args.row.free) ((c.get_mut.follows.holds (with_free c.in-Some.account.now c.args.row.free)).3 (search rules)).0 in
    grind (arith, to_z-of_z, e, c.from_text-name.ensures)

pub returns-clause-free : goal.returns-clause-free
returns-clause-free c =
    let same = ap (λ m. m.entries) c.get_mut.follows.holds-at-none in
    let e = free_put c.get_mut.follows.lender-at-none.entries c.insert.new.self.entries c.from_text-name.result _ (λ q. c.in-Ok.ensures.updates.0 q) in
    grind (arith, to_z-of_z, e, same, c.from_text-name.ensures)
