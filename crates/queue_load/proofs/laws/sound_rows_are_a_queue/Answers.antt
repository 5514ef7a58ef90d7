use Rattle.queue_load.proofs.Found.{queue_found}
use Rattle.queue_load.proofs.laws.sound_rows_are_a_queue.Goals as goal

pub returns : goal.returns
returns c = λ t d are keyed stand. queue_found t d are keyed stand
