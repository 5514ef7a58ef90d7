use Rattle.sqlite.specs.Held.{state}
use Rattle.queue_tables.specs.Values.{job_values}
use Rattle.queue_tables.specs.Content.{content_of}
use Rattle.queue_tables.specs.Steps.{with_job_row}
use Rattle.queue_tables.proofs.Making.{handed_on, held_as, made_then, seen_as}
use Rattle.queue_tables.proofs.Puts.{can_enter, entered}
use Rattle.queue_tables.proofs.Replacing.{amounts_of_one}
use Rattle.queue_tables.proofs.Spared.{no_row}
use Rattle.queue_tables.proofs.put.enter_job.Goals as goal

pub returns-in_err-insert_job-clause-made : goal.returns-in_err-insert_job-clause-made
returns-in_err-insert_job-clause-made g c =
    handed_on (seen_as c.in_err-insert_job.ensures.made content_of (λ w it. no_row c.args.job.now.number w it.0.summable.distinct it.1)) _ c.from_residual-in_err-insert_job.ensures.1

pub returns-clause-made : goal.returns-clause-made
returns-clause-made g c =
    let j = c.args.job.now in
    let added = seen_as c.in_ok-insert_job.ensures.made content_of (λ w it. no_row j.number w it.0.summable.distinct it.1) in
    let summed = rw (c.as_str.ensures, c.in_ok-taken.ensures.reserved, c.in_ok-taken.ensures.printed) at c.add_to_sums.ensures.made in
    held_as (made_then (λ w. with_job_row (job_values j) (content_of w)) added summed (λ w it. can_enter j w it.0.summable (amounts_of_one it.0)))
    (λ w it has. entered j w (state g.S.Store c.add_to_sums.new.tx.conn.now) it.1 has)
