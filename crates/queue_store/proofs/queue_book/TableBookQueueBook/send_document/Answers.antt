use Rattle.std.proofs.Common.{IsTrue}
use Rattle.std.proofs.lemmas.Result.{IfErr-weaker}
use Rattle.sqlite.specs.Held.{state}
use Rattle.queue_tables.specs.Content.{content_of}
use Rattle.queue_store.proofs.Keeping.{still_keeps, open_with_document}
use Rattle.queue_store.proofs.Results.{both_ok}
use Rattle.queue_tables.proofs.Leaving.{held_by}
use Rattle.queue_store.proofs.queue_book.TableBookQueueBook.send_document.Goals as goal

pub returns-clause-kept : goal.returns-clause-kept
returns-clause-kept g c w stood = still_keeps (state g.S.Store c.args.self.now.conn) (state g.S.Store c.send_document.new.conn) c.args.self.now.settings w c.send_document.ensures.leaves stood

pub returns-clause-ok : goal.returns-clause-ok
returns-clause-ok g c honest =
    both_ok c.send_document.result (λ _. IsTrue (state g.S.Store c.send_document.new.conn).is_open) _ _ (λ sent is_open sends w d stands.
    let now = stands honest in
    sends w d now.sound (held_by c.send_document.ensures.leaves honest (content_of w) (now.holds is_open))) (c.send_document.ensures.live honest) (c.send_document.ensures.ok honest)

pub returns-clause-err : goal.returns-clause-err
returns-clause-err g c honest =
    let old = state g.S.Store c.args.self.now.conn in
    let began = c.send_document.ensures.leaves.clean honest in
    let is_open = open_with_document old c.args.self.now.settings c.args.job c.args.n began (c.empty_is_sound.ensures c.args.self.now.settings c.estimate-estimate.ensures.limits) c.requires.there in
    IfErr-weaker c.send_document.result _ _ (λ f sends w d stands. sends w d (stands began).sound ((stands began).holds is_open)) (c.send_document.ensures.err honest)

pub returns-clause-left : goal.returns-clause-left
returns-clause-left g c honest v w left db may = left db (c.send_document.ensures.leaves.left honest db may)

pub returns-clause-counted : goal.returns-clause-counted
returns-clause-counted g c = c.send_document.ensures.counted
