use Rattle.std.proofs.Common.{sym, rules}
use Rattle.list_book.proofs.Keyed.{free_stays, is_there, with_more}
use Rattle.list_book.proofs.accounts.add_pages.Goals as goal

pub returns-in-Some-clause-free : goal.returns-in-Some-clause-free
returns-in-Some-clause-free c =
    free_stays c.args.accounts.now.entries _ c.args.name.now c.in-Some.account.now c.args.pages (sym c.in-Some.ensures.value)
    ((c.get_mut.follows.holds (with_more c.in-Some.account.now c.args.pages)).3 (search rules)).0

pub returns-in_default-clause-totals : goal.returns-in_default-clause-totals
returns-in_default-clause-totals c = absurd (is_there c.args.accounts.now.entries c.args.name.now c.requires.there (sym c.in_default.ensures.value))
