use Rattle.queue_core.proofs.Fair.{fair_of}
use Rattle.queue_core.proofs.laws.cut_is_fair.Goals as goal

pub returns : goal.returns
returns c = fair_of
