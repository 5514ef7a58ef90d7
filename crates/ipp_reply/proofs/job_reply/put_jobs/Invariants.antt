use Rattle.std.proofs.Common.{◌≡◌, ◌++◌, take}
use Rattle.std.specs.Prelude.{map}
use Rattle.ipp_reply.specs.JobReply.{job_group}
use Rattle.ipp_reply.proofs.job_reply.put_jobs.Given as goal

abbrev pub invariant-loop-job : goal.invariant-loop-job
invariant-loop-job l = l.message ≡ record l.fn.message { groups = l.fn.message.groups ++ map (job_group l.view.uri.now l.view.now l.view.rows.now) (take l.job-index l.jobs) }
