use Rattle.std.proofs.Common.{sym, subst, ap, ◌∙◌}
use Rattle.std.proofs.lemmas.Result.{IfOk-weaker}
use Rattle.queue_types.specs.Event.{event_of}
use Rattle.queue_core.specs.Limits.{IsFair}
use Rattle.queue_core.specs.Machine.{decision}
use Rattle.list_book.specs.Lists.{world_of}
use Rattle.list_book.proofs.ByNumber.{rising_jobs}
use Rattle.list_book.proofs.book.decided.Goals as goal

pub decide-requires-clause-fair : goal.decide-requires-clause-fair
decide-requires-clause-fair c = subst IsFair (sym c.in_ok-scene.ensures) (c.cut_is_fair.ensures (world_of c.args.lists.now) c.args.now (event_of c.args.event.now) c.requires.sound)

pub returns-clause-decides : goal.returns-clause-decides
returns-clause-decides c = IfOk-weaker c.decide.result _ _ (λ d is.
    is ∙ ap (λ s. decision s c.args.now (event_of c.args.event.now)) c.in_ok-scene.ensures) c.decide.ensures.decides

pub scene-requires-clause-rising : goal.scene-requires-clause-rising
scene-requires-clause-rising c = rising_jobs c.args.lists.now c.requires.sound
