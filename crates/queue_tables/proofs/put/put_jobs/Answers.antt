use Rattle.std.proofs.Common.{rules, arith, take, List, subst}
use Rattle.std.proofs.lemmas.List.{take_all}
use Rattle.sqlite.specs.Held.{state}
use Rattle.queue_types.specs.declared.job.Job.{Job}
use Rattle.queue_tables.specs.Content.{Holds, content_of}
use Rattle.queue_tables.specs.Steps.{with_puts}
use Rattle.queue_tables.proofs.Making.{handed_on, held_as, made_then}
use Rattle.queue_tables.proofs.Puts.{put_more}
use Rattle.queue_tables.proofs.Replacing.{can_put_next}
use Rattle.queue_tables.proofs.put.put_jobs.Goals as goal

pub loop-job-preserved : goal.loop-job-preserved
loop-job-preserved g c = (
  search rules,
  (let js = c.args.jobs.now in
      let k = c.loop-job.job-index in
      let x = c.job-item.result in
      held_as (made_then (with_puts (take k js)) c.loop-job.invariant.1 c.in_ok-put_job.ensures.made (λ w can. can_put_next js k x w (omega arith) c.job-item.is can))
      (λ w can has. put_more js k x w (state g.S.Store c.put_job.new.tx.conn.now) (omega arith) c.job-item.is has)),
)

pub returns-in_err-put_job-clause-made : goal.returns-in_err-put_job-clause-made
returns-in_err-put_job-clause-made g c =
    let js = c.args.jobs.now in
    let k = c.loop-job.job-index in
    handed_on (made_then (with_puts (take k js)) c.loop-job.invariant.1 c.in_err-put_job.ensures.made (λ w can. can_put_next js k c.job-item.result w (omega arith) c.job-item.is can)) _ c.from_residual.ensures.1

pub returns-clause-made : goal.returns-clause-made
returns-clause-made g c =
    held_as c.loop-job.invariant.1
    (λ w can has. subst (λ (js : List Job). Holds (content_of (with_puts js w)) (state g.S.Store c.loop-job.tx.conn.now)) (take_all c.loop-job.job-index c.args.jobs.now (omega arith)) has)
