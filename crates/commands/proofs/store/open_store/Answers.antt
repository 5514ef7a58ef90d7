use Rattle.commands.proofs.store.open_store.Goals as goal

pub returns-clause-kept : goal.returns-clause-kept
returns-clause-kept g c = c.in_ok-book.ensures.kept

pub returns-clause-live : goal.returns-clause-live
returns-clause-live g c = λ fits honest. (c.in_ok-book.ensures.stands fits honest).live
