use Rattle.queue_core.proofs.Start.{empty_sound}
use Rattle.queue_core.proofs.laws.empty_is_sound.Goals as goal

pub returns : goal.returns
returns c = empty_sound
