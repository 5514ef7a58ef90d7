use Rattle.queue_laws.proofs.OnOne.{others_left}
use Rattle.queue_laws.proofs.single.other_jobs_are_left_alone.Goals as goal

pub returns : goal.returns
returns c = others_left
