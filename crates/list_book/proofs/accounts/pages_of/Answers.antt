use Rattle.std.proofs.Common.{arith}
use Rattle.std.proofs.lemmas.Int.{to_z-of_z}
use Rattle.list_book.proofs.Keyed.{free_found_at, free_nowhere}
use Rattle.list_book.proofs.accounts.pages_of.Goals as goal

pub returns-in-Some-clause-free : goal.returns-in-Some-clause-free
returns-in-Some-clause-free c =
    let e = free_found_at c.args.accounts.now.entries c.args.name.now c.in-Some.account c.in-Some.ensures in
    grind (arith, to_z-of_z, e)

pub returns-in-None-clause-free : goal.returns-in-None-clause-free
returns-in-None-clause-free c = free_nowhere c.args.accounts.now.entries c.args.name.now c.in-None.ensures
