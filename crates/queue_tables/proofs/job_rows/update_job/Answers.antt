use Rattle.sqlite.specs.Held.{state}
use Rattle.queue_tables.specs.Values.{job_values}
use Rattle.queue_tables.proofs.JobPut.{puts_job}
use Rattle.queue_tables.proofs.Making.{made_by}
use Rattle.queue_tables.proofs.Opened.{held_others}
use Rattle.queue_tables.proofs.Renewing.{job_stands}
use Rattle.queue_tables.proofs.Statements.{update_job_text}
use Rattle.queue_tables.proofs.job_rows.update_job.Goals as goal

pub returns-clause-made : goal.returns-clause-made
returns-clause-made g c =
    let old = state g.S.Store c.args.tx.now.conn.now in
    let new = state g.S.Store c.write.new.tx.conn.now in
    let j = c.args.job.now in
    made_by (rw c.columns_of.ensures at c.write.ensures.wrote)
    (λ content it has count ran. puts_job old new j it.job count content has it.once it.numbered ran)
    (λ content it has refused. held_others update_job_text (job_values j) old new content (job_stands old new j it.job content it.once it.numbered) refused has)
