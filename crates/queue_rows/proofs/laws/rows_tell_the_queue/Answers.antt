use Rattle.queue_rows.proofs.Worlds.{one_world}
use Rattle.queue_rows.proofs.laws.rows_tell_the_queue.Goals as goal

pub returns : goal.returns
returns c = one_world
