use Rattle.commands.proofs.PrintedLemmas.{replayed}
use Rattle.commands.proofs.program.do_replay.Goals as goal

pub returns-clause-printed : goal.returns-clause-printed
returns-clause-printed g c = replayed _ _ _ _ _ c.flush.ensures.bytes c.in_ok-status.ensures.answered
