use Rattle.queue_types.specs.declared.job.Why.TheVariants.{ByOperator}
use Rattle.queue_laws.proofs.LeftAlone.{others_account}
use Rattle.queue_laws.proofs.OfPages.{operators_free, operators_none}
use Rattle.queue_laws.proofs.OnCancel.{others_may, is_canceled, is_stopping, again_refused, ended_refused}
use Rattle.queue_laws.proofs.OneDone.{row_at}
use Rattle.queue_laws.proofs.operating.operators_cancel.Goals as goal

pub returns-clause-canceled : goal.returns-clause-canceled
returns-clause-canceled c w now n u e others = is_canceled w now n u e ByOperator (others_may w n u e others)

pub returns-clause-stopping : goal.returns-clause-stopping
returns-clause-stopping c w now n u e others = is_stopping w now n u e ByOperator (others_may w n u e others)

pub returns-clause-again : goal.returns-clause-again
returns-clause-again c w now n u e why others = again_refused w now n u e ByOperator (others_may w n u e others) why

pub returns-clause-ended : goal.returns-clause-ended
returns-clause-ended c w now n u e others = ended_refused w now n u e ByOperator (others_may w n u e others)

pub returns-clause-pages : goal.returns-clause-pages
returns-clause-pages c = operators_free

pub returns-clause-no_pages : goal.returns-clause-no_pages
returns-clause-no_pages c = operators_none

pub returns-clause-accounts : goal.returns-clause-accounts
returns-clause-accounts c w now n u a e sound there other = others_account w now n u a e.row sound (row_at n w.jobs e there) other
