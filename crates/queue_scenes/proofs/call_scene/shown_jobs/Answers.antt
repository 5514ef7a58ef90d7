use Rattle.std.proofs.Common.{ap, sym, ◌∙◌}
use Rattle.queue_core.specs.Visible.{visible}
use Rattle.queue_core.specs.World.{rows}
use Rattle.queue_tables.proofs.Telling.{tells_as}
use Rattle.queue_scenes.proofs.call_scene.shown_jobs.Goals as goal

pub returns-then-all-clause-reads : goal.returns-then-all-clause-reads
returns-then-all-clause-reads g c = tells_as c.visible_to_operators.ensures.reads (λ w sound v is. is ∙ ap (λ b. visible b c.args.caller.now c.args.which c.args.limit (rows w)) (sym c.if-all.true))
