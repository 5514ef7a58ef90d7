use Rattle.std.proofs.Common.{[], ◌∷◌, take, arith, length-append}
use Rattle.std.specs.Prelude.{map}
use Rattle.ipp_reply.specs.declared.job_reply.JobAttribute.TheVariants.{JobUri}
use Rattle.ipp_reply.specs.JobReply.{attribute}
use Rattle.ipp_reply.proofs.Rows.{attribute_fits}
use Rattle.ipp_reply.proofs.Put.{row_more}
use Rattle.ipp_reply.proofs.job_reply.put_job.Goals as goal

pub put-requires-clause-fits : goal.put-requires-clause-fits
put-requires-clause-fits c = rw (c.name.ensures, c.in_ok-content.ensures) (attribute_fits c.plain_attribute.ensures c.args.view.uri.now c.args.view.now c.args.job.now _ c.requires.uri c.requires.job)

pub put-requires-clause-begun : goal.put-requires-clause-begun
put-requires-clause-begun c = rw c.rows.invariant (omega (arith, length-append c.args.message.now.groups (record { tag = 0x02; attributes = map (attribute c.args.view.uri.now c.args.view.now c.args.job.now) (take c.rows.row-index c.args.view.rows.now) } ∷ [])))

pub rows-preserved : goal.rows-preserved
rows-preserved c = rw (c.in_ok-put.ensures, c.name.ensures, c.in_ok-content.ensures, c.rows.invariant) (row_more c.args.message.now c.args.message.now.groups 0x02 (attribute c.args.view.uri.now c.args.view.now c.args.job.now) c.args.view.rows.now c.rows.row-index JobUri c.rows-test.true)
