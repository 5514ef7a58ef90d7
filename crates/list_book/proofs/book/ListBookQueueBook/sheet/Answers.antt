use Rattle.std.proofs.Common.{ap, ◌∙◌}
use Rattle.queue_core.specs.Shown.{sheet_of}
use Rattle.queue_core.specs.World.{World}
use Rattle.list_book.proofs.SeenLemmas.{reserved_fits, printed_fits, sheet_is, sheet_named}
use Rattle.list_book.proofs.book.ListBookQueueBook.sheet.Goals as goal

pub sheet-requires-clause-reserved : goal.sheet-requires-clause-reserved
sheet-requires-clause-reserved c = reserved_fits c.self.inside.lists c.args.account.now c.self.invariant.1

pub sheet-requires-clause-printed : goal.sheet-requires-clause-printed
sheet-requires-clause-printed c = printed_fits c.self.inside.lists c.args.account.now c.self.invariant.1

pub returns-clause-named : goal.returns-clause-named
returns-clause-named c = rw c.in_ok-sheet.ensures (sheet_named c.self.inside.lists c.args.account.now _)

pub returns-clause-sheet : goal.returns-clause-sheet
returns-clause-sheet c = λ _ w h.
    c.in_ok-sheet.ensures
    ∙ sheet_is c.self.inside.lists c.args.account.now c.self.invariant.2
    ∙ ap (λ (v : World). sheet_of v c.args.account.now) (c.self.view_is ∙ h.0)
