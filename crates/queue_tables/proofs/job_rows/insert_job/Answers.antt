use Rattle.sqlite.specs.Held.{state}
use Rattle.queue_tables.proofs.Entrants.{job_enters}
use Rattle.queue_tables.proofs.Making.{made_by}
use Rattle.queue_tables.proofs.Rows.{adds_job}
use Rattle.queue_tables.proofs.job_rows.insert_job.Goals as goal

pub returns-clause-made : goal.returns-clause-made
returns-clause-made g c =
    let old = state g.S.Store c.args.tx.now.conn.now in
    let new = state g.S.Store c.write.new.tx.conn.now in
    made_by (rw c.columns_of.ensures at c.write.ensures.wrote)
    (λ content none has count ran. adds_job old new c.args.job.now count content has ran)
    (λ content none has refused. job_enters old new c.args.job.now content has none refused)
