use Rattle.std.proofs.Common.{rules}
use Rattle.sqlite.specs.Held.{state}
use Rattle.queue_core.specs.World.{rows, job_at}
use Rattle.queue_tables.specs.Forms.{IsFormedJob}
use Rattle.queue_tables.specs.Values.{job_values}
use Rattle.queue_tables.proofs.Firsts.{first_some}
use Rattle.queue_tables.proofs.JobPut.{reads_job_at, found_none, found_some}
use Rattle.queue_tables.proofs.Making.{reads, reads_damage}
use Rattle.queue_tables.proofs.Spared.{each_at}
use Rattle.queue_tables.proofs.job_rows.find_job.Goals as goal

pub returns-in-None-clause-reads : goal.returns-in-None-clause-reads
returns-in-None-clause-reads g c =
    reads _ _ _ c.in_ok-found.ensures.stays c.in_ok-found.ensures.shown _ (λ clean w can has.
    let it = reads_job_at (state g.S.Store c.args.tx.now.conn.now) (state g.S.Store c.select_inside.new.tx.conn.now) c.args.number c.in_ok-found.found.items w can.0 has (rw (c.params-to_sql.ensures) at (c.in_ok-found.ensures.shown clean)) in
    (found_none c.in_ok-found.found.items (job_at c.args.number (rows w)) (search rules) it.0, it.1))

pub returns-clause-reads : goal.returns-clause-reads
returns-clause-reads g c =
    reads _ _ _ c.in_ok-found.ensures.stays c.in_ok-found.ensures.shown _ (λ clean w can has.
    let it = reads_job_at (state g.S.Store c.args.tx.now.conn.now) (state g.S.Store c.select_inside.new.tx.conn.now) c.args.number c.in_ok-found.found.items w can.0 has (rw (c.params-to_sql.ensures) at (c.in_ok-found.ensures.shown clean)) in (
      found_some c.numbers_tell_names.ensures.courses c.numbers_tell_names.ensures.flags c.in_ok-found.found.items c.in-Some.row.now c.in_ok-job-in-Some.job (job_at c.args.number (rows w)) (search rules)
          c.in_ok-job-in-Some.ensures.ok c.in_ok-job-in-Some.ensures.bare it.0,
      it.1,
    ))

pub returns-in_err-job-in-Some-clause-reads : goal.returns-in_err-job-in-Some-clause-reads
returns-in_err-job-in-Some-clause-reads g c =
    reads_damage _ _ _ c.in_ok-found.ensures.stays c.in_ok-found.ensures.shown _ c.in_err-job-in-Some.field-0.0 c.from_residual-in_err-job-in-Some.ensures.1 (λ clean d w can has.
    let is = (reads_job_at (state g.S.Store c.args.tx.now.conn.now) (state g.S.Store c.select_inside.new.tx.conn.now) c.args.number c.in_ok-found.found.items w can.0 has (rw (c.params-to_sql.ensures) at (c.in_ok-found.ensures.shown clean))).0 in
    let some = first_some job_values c.in_ok-found.found.items c.in-Some.row.now (job_at c.args.number (rows w)) (search rules) is in
    c.in_err-job-in-Some.ensures.err d some.0 (each_at IsFormedJob c.args.number some.0 w.jobs can.1 some.1) some.2)
