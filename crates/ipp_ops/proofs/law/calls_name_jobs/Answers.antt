use Rattle.std.specs.Prelude.{Some}
use Rattle.queue_types.specs.Event.{ask, cancel_my_jobs}
use Rattle.ipp_ops.proofs.Numbered.{asked_numbered}
use Rattle.ipp_ops.proofs.law.calls_name_jobs.Goals as goal

pub returns-clause-one_job : goal.returns-clause-one_job
returns-clause-one_job c = λ b caller call asks. (asked_numbered b (Some (ask caller call)) asks).0

pub returns-clause-own_jobs : goal.returns-clause-own_jobs
returns-clause-own_jobs c = λ b caller numbers asks. (asked_numbered b (Some (ask caller (cancel_my_jobs (Some numbers)))) asks).1
