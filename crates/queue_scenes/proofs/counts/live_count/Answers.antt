use Rattle.queue_scenes.proofs.Counting.{count_live_is, counts_live}
use Rattle.queue_scenes.proofs.counts.live_count.Goals as goal

pub count-requires : goal.count-requires
count-requires g c = record { query = count_live_is.shows.query }

pub returns-clause-reads : goal.returns-clause-reads
returns-clause-reads g c = let reads = rw (c.params-to_sql.ensures) at (c.count.ensures.reads) in reads _ (counts_live c.args.caller.now _)
