use Rattle.std.proofs.Common.{ap, sym, ◌∙◌}
use Rattle.std.proofs.lemmas.Result.{IfOk-weaker}
use Rattle.queue_types.specs.Event.{event_of}
use Rattle.queue_core.specs.World.{cut}
use Rattle.list_book.specs.Lists.{world_of}
use Rattle.list_book.proofs.scene.scene.Goals as goal

pub returns-in-Ask : goal.returns-in-Ask
returns-in-Ask c = IfOk-weaker c.scene_of_call.result _ _ (λ s is. is c.args.now ∙ ap (λ e. cut (world_of c.args.lists.now) c.args.now (event_of e)) (sym c.in-Ask.is)) c.scene_of_call.ensures

pub returns-in-Report : goal.returns-in-Report
returns-in-Report c = IfOk-weaker c.scene_of_report.result _ _ (λ s is. is c.args.now ∙ ap (λ e. cut (world_of c.args.lists.now) c.args.now (event_of e)) (sym c.in-Report.is)) c.scene_of_report.ensures

pub returns-in-Grants : goal.returns-in-Grants
returns-in-Grants c = IfOk-weaker c.scene_of_grants.result _ _ (λ s is. is c.args.now ∙ ap (λ e. cut (world_of c.args.lists.now) c.args.now (event_of e)) (sym c.in-Grants.is)) c.scene_of_grants.ensures
