use Rattle.std.proofs.Common.{arith}
use Rattle.std.proofs.lemmas.Grind.{common_steps}
use Rattle.queue_rows.proofs.reports.job_numbers.Goals as goal

pub loop-job-preserved : goal.loop-job-preserved
loop-job-preserved c = λ n. grind (arith, common_steps, c.loop-job.invariant n)
