use Rattle.queue_core.proofs.Granted.{all_added}
use Rattle.queue_core.proofs.laws.new_grants_add_up.Goals as goal

pub returns : goal.returns
returns c = all_added
