use Rattle.queue_scenes.proofs.Lists.{selects_own}
use Rattle.queue_scenes.proofs.Statements.{select_own_is}
use Rattle.queue_scenes.proofs.own_jobs.all_jobs.Goals as goal

pub select_jobs-requires : goal.select_jobs-requires
select_jobs-requires g c = record { query = select_own_is.shows.query }

pub returns-clause-reads : goal.returns-clause-reads
returns-clause-reads g c = let reads = rw (c.params-to_sql.ensures) at (c.select_jobs.ensures.reads) in reads _ (selects_own c.args.owner.now _)
