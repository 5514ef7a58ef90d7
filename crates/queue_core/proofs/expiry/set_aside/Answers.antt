use Rattle.std.proofs.Common.{refl, rules}
use Rattle.queue_types.specs.Job.{owed}
use Rattle.queue_types.specs.declared.job.Job.{Job}
use Rattle.queue_core.proofs.AmountLemmas.{totals_told}
use Rattle.queue_core.proofs.expiry.set_aside.Goals as goal

pub returns : goal.returns
returns c = totals_told c.totals.result _ c.args.jobs.now (λ (x : Job). x.owner) (λ (x : Job). owed x) _ (λ x p told. search (rules, told.shows, told.says.met)) (λ q. refl) c.totals.ensures
