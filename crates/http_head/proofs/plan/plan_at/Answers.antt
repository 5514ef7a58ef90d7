use Rattle.http_head.specs.Planned.{said}
use Rattle.http_head.proofs.PlanLemmas.{plan_is, fits_by}
use Rattle.http_head.proofs.plan.plan_at.Goals as goal

pub returns-clause-planned : goal.returns-clause-planned
returns-clause-planned c = plan_is c.args.come.now c.args.headers.now c.args.spans c.plan_said.result c.plan_said.ensures

pub returns-clause-fits : goal.returns-clause-fits
returns-clause-fits c = fits_by (said c.args.come.now c.args.headers.now c.args.spans) c.plan_said.result c.plan_said.ensures
