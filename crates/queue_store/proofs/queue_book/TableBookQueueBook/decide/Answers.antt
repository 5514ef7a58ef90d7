use Rattle.std.proofs.Common.{ap, ◌∙◌}
use Rattle.std.proofs.lemmas.Result.{IfOk-weaker}
use Rattle.sqlite.specs.Held.{state}
use Rattle.queue_types.specs.Event.{event_of}
use Rattle.queue_core.specs.Machine.{decision}
use Rattle.queue_tables.specs.Content.{content_of}
use Rattle.queue_store.proofs.Keeping.{still_keeps}
use Rattle.queue_store.proofs.Results.{on_any}
use Rattle.queue_tables.proofs.Leaving.{held_by}
use Rattle.queue_store.proofs.queue_book.TableBookQueueBook.decide.Goals as goal

pub returns-in_err-scene-clause-kept : goal.returns-in_err-scene-clause-kept
returns-in_err-scene-clause-kept g c w stood = still_keeps (state g.S.Store c.args.self.now.conn) (state g.S.Store c.scene.new.conn) c.args.self.now.settings w c.in_err-scene.ensures.reads.leaves stood

pub returns-clause-kept : goal.returns-clause-kept
returns-clause-kept g c w stood = still_keeps (state g.S.Store c.args.self.now.conn) (state g.S.Store c.scene.new.conn) c.args.self.now.settings w c.in_ok-scene.ensures.reads.leaves stood

pub returns-clause-decides : goal.returns-clause-decides
returns-clause-decides g c honest = IfOk-weaker c.decide_on.result _ _ (λ d decided w stands.
    let now = stands honest in
    let held = held_by c.in_ok-scene.ensures.reads.leaves honest (content_of w) (now.holds (c.in_ok-scene.ensures.live honest)) in
    decided ∙ ap (λ s. decision s c.args.now (event_of c.args.event.now)) (c.in_ok-scene.ensures.reads.found honest w now.sound held now.settings_are)) c.decide_on.ensures.decides

pub returns-clause-live : goal.returns-clause-live
returns-clause-live g c honest = on_any c.decide_on.result _ (c.in_ok-scene.ensures.live honest)

pub returns-in_err-scene-clause-left : goal.returns-in_err-scene-clause-left
returns-in_err-scene-clause-left g c honest v w left db may = left db (c.in_err-scene.ensures.reads.leaves.left honest db may)

pub returns-clause-left : goal.returns-clause-left
returns-clause-left g c honest v w left db may = left db (c.in_ok-scene.ensures.reads.leaves.left honest db may)
