use Rattle.queue_scenes.proofs.Lists.{selects_numbered}
use Rattle.queue_tables.proofs.Statements.{select_job_is}
use Rattle.queue_scenes.proofs.jobs.with_number.Goals as goal

pub select_jobs-requires : goal.select_jobs-requires
select_jobs-requires g c = record { query = select_job_is.shows.query }

pub returns-clause-reads : goal.returns-clause-reads
returns-clause-reads g c = let reads = rw (c.params-to_sql.ensures) at (c.select_jobs.ensures.reads) in reads _ (selects_numbered c.args.number _)
