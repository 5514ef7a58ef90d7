use Rattle.queue_laws.proofs.Work.{work_kept}
use Rattle.queue_laws.proofs.alone.work_is_left_alone.Goals as goal

pub returns : goal.returns
returns c w now n caller call j k sound turn = work_kept w now n caller call j k sound turn.was turn.is
