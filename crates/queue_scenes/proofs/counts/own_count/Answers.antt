use Rattle.queue_scenes.proofs.Counting.{count_own_is, counts_own}
use Rattle.queue_scenes.proofs.counts.own_count.Goals as goal

pub count-requires : goal.count-requires
count-requires g c = record { query = count_own_is.shows.query }

pub returns-clause-reads : goal.returns-clause-reads
returns-clause-reads g c = let reads = rw (c.params-to_sql.ensures) at (c.count.ensures.reads) in reads _ (counts_own c.args.owner.now _)
