use Rattle.std.proofs.Common.{◌∙◌, rules}
use Rattle.queue_tables.proofs.Telling.{tells_as}
use Rattle.queue_scenes.proofs.call_scene.my_jobs.Goals as goal

pub returns-in-Some-clause-reads : goal.returns-in-Some-clause-reads
returns-in-Some-clause-reads g c = tells_as c.numbered_jobs.ensures.reads (λ w sound v is. is ∙ search rules)
