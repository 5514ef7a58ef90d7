use Rattle.sqlite.specs.Held.{state}
use Rattle.queue_tables.specs.Content.{content_of}
use Rattle.queue_tables.specs.Steps.{with_job_anew}
use Rattle.queue_tables.proofs.Making.{handed_on, held_as, made_nothing, made_then, seen_as}
use Rattle.queue_tables.proofs.Replacing.{amounts_of_one, can_give, can_take_anew, had_amounts, has_job, is_replaced, without_before}
use Rattle.queue_tables.proofs.put.replace_job.Goals as goal

pub returns-in_err-back-clause-made : goal.returns-in_err-back-clause-made
returns-in_err-back-clause-made g c =
    made_nothing _ c.in_err-back.field-0.0 c.from_residual.ensures.1 (λ d w it. c.in_err-back.ensures.damaged (had_amounts c.args.job.now c.args.before.now w it.0.summable it.1))

pub returns-in_err-taken-clause-made : goal.returns-in_err-taken-clause-made
returns-in_err-taken-clause-made g c = made_nothing _ c.in_err-taken.field-0.0 c.from_residual-in_err-taken.ensures.1 (λ d w it. c.in_err-taken.ensures.damaged (amounts_of_one it.0))

pub returns-in_err-update_job-clause-made : goal.returns-in_err-update_job-clause-made
returns-in_err-update_job-clause-made g c =
    handed_on (seen_as c.in_err-update_job.ensures.made content_of (λ w it. has_job c.args.job.now c.args.before.now w it.0.summable it.1)) _ c.from_residual-in_err-update_job.ensures.1

pub returns-in_err-add_to_sums-clause-made : goal.returns-in_err-add_to_sums-clause-made
returns-in_err-add_to_sums-clause-made g c =
    let j = c.args.job.now in
    let b = c.args.before.now in
    let anew = seen_as c.in_ok-update_job.ensures.made content_of (λ w it. has_job j b w it.0.summable it.1) in
    let given = rw (c.as_str.ensures, c.in_ok-back.ensures.reserved, c.in_ok-back.ensures.printed) at c.in_err-add_to_sums.ensures.made in
    handed_on (made_then (λ w. with_job_anew j (content_of w)) anew given (λ w it. can_give j b w it.0.summable it.1)) _ c.from_residual-in_err-add_to_sums.ensures.1

pub returns-clause-made : goal.returns-clause-made
returns-clause-made g c =
    let j = c.args.job.now in
    let b = c.args.before.now in
    let anew = seen_as c.in_ok-update_job.ensures.made content_of (λ w it. has_job j b w it.0.summable it.1) in
    let given = rw (c.as_str.ensures, c.in_ok-back.ensures.reserved, c.in_ok-back.ensures.printed) at c.in_ok-add_to_sums.ensures.made in
    let taken = rw (c.as_str-2.ensures, c.in_ok-taken.ensures.reserved, c.in_ok-taken.ensures.printed) at c.add_to_sums-2.ensures.made in
    let less = made_then (λ w. with_job_anew j (content_of w)) anew given (λ w it. can_give j b w it.0.summable it.1) in
    held_as (made_then (without_before j b) less taken (λ w it. can_take_anew j b w it.0.summable it.1 (amounts_of_one it.0)))
    (λ w it has. is_replaced j b w it.0.summable it.1 (state g.S.Store c.add_to_sums-2.new.tx.conn.now) has)
