use Rattle.std.proofs.Common.{◌∙◌, sym}
use Rattle.queue_core.specs.World.{rows, job_at}
use Rattle.queue_tables.proofs.JobPut.{was_none}
use Rattle.queue_tables.proofs.Making.{read_then, unread}
use Rattle.queue_tables.proofs.put.put_job.Goals as goal

pub returns-in_err-before-clause-made : goal.returns-in_err-before-clause-made
returns-in_err-before-clause-made g c = unread c.in_err-before.ensures.reads (λ w can. (can.summable.distinct, can.formed)) _ c.from_residual.ensures.1

pub returns-in-Some-clause-made : goal.returns-in-Some-clause-made
returns-in-Some-clause-made g c =
    read_then c.in_ok-before.ensures.reads c.replace_job.ensures.made (λ w can. (can.summable.distinct, can.formed)) (λ w can read. (can, sym c.in-Some.is ∙ read))

pub returns-in-None-clause-made : goal.returns-in-None-clause-made
returns-in-None-clause-made g c =
    read_then c.in_ok-before.ensures.reads c.enter_job.ensures.made (λ w can. (can.summable.distinct, can.formed)) (λ w can read. (can, was_none (job_at c.args.job.now.number (rows w)) (sym c.in-None.is ∙ read)))
