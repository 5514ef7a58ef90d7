use Rattle.queue_types.specs.declared.job.Why.TheVariants.{ByUser}
use Rattle.queue_laws.proofs.OnCancel.{own_may, is_canceled, is_stopping, again_refused, ended_refused}
use Rattle.queue_laws.proofs.doing.jobs_are_canceled.Goals as goal

pub returns-clause-canceled : goal.returns-clause-canceled
returns-clause-canceled c w now n u e own = is_canceled w now n u e ByUser (own_may w n u e own)

pub returns-clause-stopping : goal.returns-clause-stopping
returns-clause-stopping c w now n u e own = is_stopping w now n u e ByUser (own_may w n u e own)

pub returns-clause-again : goal.returns-clause-again
returns-clause-again c w now n u e why own = again_refused w now n u e ByUser (own_may w n u e own) why

pub returns-clause-ended : goal.returns-clause-ended
returns-clause-ended c w now n u e own = ended_refused w now n u e ByUser (own_may w n u e own)
