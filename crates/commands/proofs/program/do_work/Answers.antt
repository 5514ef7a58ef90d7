use Rattle.commands.proofs.PrintedLemmas.{prints_kept}
use Rattle.commands.proofs.program.do_work.Goals as goal

pub returns-clause-printed : goal.returns-clause-printed
returns-clause-printed g c = prints_kept c.args.work _ _ _ c.flush.ensures.bytes c.in_ok-work_and_let_go.ensures.printed
