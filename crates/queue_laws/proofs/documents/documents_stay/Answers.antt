use Rattle.queue_laws.proofs.Staying.{step_has, run_has, as_it_is}
use Rattle.queue_laws.proofs.documents.documents_stay.Goals as goal

pub returns-clause-step : goal.returns-clause-step
returns-clause-step c w now n e x there = step_has n x.documents w now e (as_it_is n w.jobs x there)

pub returns-clause-runs : goal.returns-clause-runs
returns-clause-runs c w places n x there = run_has n x.documents places w (as_it_is n w.jobs x there)
