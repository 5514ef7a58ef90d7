use Rattle.std.proofs.Common.{IfNone, IfSome, sym, subst}
use Rattle.queue_store.proofs.Handed.{adopts_book, makes_book}
use Rattle.queue_store.specs.Handed.{AdoptsBook, MakesBook}
use Rattle.queue_store.proofs.open.make_or_adopt.Goals as goal

pub returns-in-Some-clause-made : goal.returns-in-Some-clause-made
returns-in-Some-clause-made g c =
    let came = c.create.ensures in
    let made = makes_book g.S.Store c.args.conn c.in-Some.settings c.store_behind.result c.create.result c.store_behind.ensures.book came.clean came.blank came.stands came.live in
    subst (λ new. IfSome new (MakesBook g.S.Store c.args.conn c.store_behind.result)) (sym c.in-Some.is) made

pub returns-in-None-clause-adopted : goal.returns-in-None-clause-adopted
returns-in-None-clause-adopted g c =
    let came = c.adopt.ensures in
    let behind = c.store_behind-in-None.ensures in
    let adopted = adopts_book g.S.Store c.args.conn c.store_behind-in-None.result c.adopt.result behind.book behind.left came.stands came.takes came.clean came.damaged came.handed came.crash in
    subst (λ new. IfNone new (AdoptsBook g.S.Store c.args.conn c.store_behind-in-None.result)) (sym c.in-None.is) adopted
