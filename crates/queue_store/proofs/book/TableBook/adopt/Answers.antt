use Rattle.std.proofs.Common.{sym, ◌∙◌}
use Rattle.sqlite.specs.Held.{state}
use Rattle.queue_store.proofs.Lifted.{adopted_leaves, adopted_stands, adopted_takes, was_clean, world_of}
use Rattle.queue_store.proofs.Results.{told_damaged}
use Rattle.queue_store.proofs.book.TableBook.adopt.Goals as goal

pub returns-in-Ok-clause-stands : goal.returns-in-Ok-clause-stands
returns-in-Ok-clause-stands g c = λ fits. adopted_stands g.S.Store c.over.result c.settings_in_newest.new.conn c.over.ensures.lifted _ c.over.ensures.settings (λ clean. world_of (state g.S.Store c.args.conn) _ _ (c.in-Ok.ensures.takes fits clean))

pub returns-in-Ok-clause-takes : goal.returns-in-Ok-clause-takes
returns-in-Ok-clause-takes g c = λ fits. adopted_takes g.S.Store c.over.result c.settings_in_newest.new.conn c.over.ensures.lifted (state g.S.Store c.args.conn) _ c.over.ensures.settings (c.in-Ok.ensures.takes fits)

pub returns-in-Ok-clause-clean : goal.returns-in-Ok-clause-clean
returns-in-Ok-clause-clean g c = λ honest. c.settings_in_newest.ensures.clean (was_clean g.S.Store c.over.result c.settings_in_newest.new.conn c.over.ensures.lifted honest)

pub returns-in-Err-clause-damaged : goal.returns-in-Err-clause-damaged
returns-in-Err-clause-damaged g c = λ fits clean told. c.in-Err.ensures.damaged fits clean (told_damaged c.in-Err.fault (sym c.from.ensures ∙ told))

pub returns-in-Ok-clause-newest : goal.returns-in-Ok-clause-newest
returns-in-Ok-clause-newest g c = λ is causes honest.
    let clean = was_clean g.S.Store c.over.result c.settings_in_newest.new.conn c.over.ensures.lifted honest in
    adopted_leaves g.S.Store c.over.result c.settings_in_newest.new.conn c.over.ensures.lifted (state g.S.Store c.args.conn) (c.settings_in_newest.ensures.newest is causes clean)
