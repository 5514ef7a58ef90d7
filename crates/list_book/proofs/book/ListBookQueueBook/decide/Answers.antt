use Rattle.std.proofs.Common.{ap, ◌∙◌}
use Rattle.queue_types.specs.Event.{event_of}
use Rattle.queue_core.specs.Machine.{decision}
use Rattle.queue_core.specs.World.{World, cut}
use Rattle.list_book.proofs.book.ListBookQueueBook.decide.Goals as goal

pub returns-clause-decides : goal.returns-clause-decides
returns-clause-decides c = λ _ w h.
    c.in_ok-decision.ensures.decides
    ∙ ap (λ (v : World). decision (cut v c.args.now (event_of c.args.event.now)) c.args.now (event_of c.args.event.now)) (c.self.view_is ∙ h.0)
