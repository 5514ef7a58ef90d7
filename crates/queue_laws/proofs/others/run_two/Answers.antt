use Rattle.queue_laws.proofs.TwoRuns.{two_runs}
use Rattle.queue_laws.proofs.others.run_two.Goals as goal

pub returns-clause-own : goal.returns-clause-own
returns-clause-own c u w ps qs runs = (two_runs c.run_keeps.ensures.sound u ps qs w runs.sound runs.plain runs.left runs.right runs.alike).0

pub returns-clause-told : goal.returns-clause-told
returns-clause-told c u w ps qs runs = (two_runs c.run_keeps.ensures.sound u ps qs w runs.sound runs.plain runs.left runs.right runs.alike).1
