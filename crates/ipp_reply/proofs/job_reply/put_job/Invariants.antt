use Rattle.std.proofs.Common.{◌≡◌, [], ◌∷◌, ◌++◌, take}
use Rattle.std.specs.Prelude.{map}
use Rattle.ipp_reply.specs.JobReply.{attribute}
use Rattle.ipp_reply.proofs.job_reply.put_job.Given as goal

abbrev pub invariant-rows : goal.invariant-rows
invariant-rows l = l.message ≡ record l.fn.message { groups = l.fn.message.groups ++ record { tag = 0x02; attributes = map (attribute l.view.uri.now l.view.now l.job) (take l.row-index l.view.rows.now) } ∷ [] }
