use Rattle.queue_laws.proofs.Begun.{begun_left, waiting_left, ended_left, marked_left}
use Rattle.queue_laws.proofs.alone.begun_jobs_are_left_alone.Goals as goal

pub returns-clause-begun : goal.returns-clause-begun
returns-clause-begun c w now n caller call j k sound turn high = begun_left w now n caller call j k sound turn.was high turn.is

pub returns-clause-waiting : goal.returns-clause-waiting
returns-clause-waiting c w now n caller call j k sound turn low = waiting_left w now n caller call j k sound turn.was low turn.is

pub returns-clause-ended : goal.returns-clause-ended
returns-clause-ended c w now n caller call j k sound turn high = ended_left w now n caller call j k sound turn.was high turn.is

pub returns-clause-marked : goal.returns-clause-marked
returns-clause-marked c w now n caller call j k why sound turn mark = marked_left w now n caller call j k sound turn.was why mark turn.is
