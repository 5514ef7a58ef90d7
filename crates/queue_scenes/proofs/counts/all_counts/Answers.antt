use Rattle.std.proofs.Common.{arith, refl}
use Rattle.queue_scenes.proofs.Bounds.{queued_fit}
use Rattle.queue_scenes.proofs.Counting.{count_queued_is, count_running_is, count_stopped_is, counts_queued, counts_running, counts_stopped}
use Rattle.queue_tables.proofs.Telling.{fails_behind, refuses, tells, told, told_then}
use Rattle.queue_tables.proofs.Leaving.{leaves_then}
use Rattle.queue_scenes.proofs.counts.all_counts.Goals as goal

pub count-requires : goal.count-requires
count-requires g c = record { query = count_running_is.shows.query }

pub count-requires-2 : goal.count-requires-2
count-requires-2 g c = record { query = count_stopped_is.shows.query }

pub count-requires-3 : goal.count-requires-3
count-requires-3 g c = record { query = count_queued_is.shows.query }

pub returns-in_err-stopped-clause-reads : goal.returns-in_err-stopped-clause-reads
returns-in_err-stopped-clause-reads g c = fails_behind c.count.ensures.leaves (c.in_err-stopped.ensures.reads _ (counts_stopped _)) _ c.from_residual-in_err-stopped.ensures.1

pub returns-in_err-queued-clause-reads : goal.returns-in_err-queued-clause-reads
returns-in_err-queued-clause-reads g c = fails_behind (leaves_then _ _ _ c.count.ensures.leaves c.count-2.ensures.leaves) (c.in_err-queued.ensures.reads _ (counts_queued _)) _ c.from_residual-in_err-queued.ensures.1

pub returns-then-queued-clause-reads : goal.returns-then-queued-clause-reads
returns-then-queued-clause-reads g c =
    let two = told_then (told (c.in_ok-running.ensures.reads _ (counts_running _)) c.in_ok-running.ensures.live) (told (c.in_ok-stopped.ensures.reads _ (counts_stopped _)) c.in_ok-stopped.ensures.live) in
    refuses (told_then two (told (c.in_ok-queued.ensures.reads _ (counts_queued _)) c.in_ok-queued.ensures.live)) c.in_ok-queued.ensures.live (λ d w sound is.
    let q = is.1 in
    let few = queued_fit w sound in
    omega (arith, q, few)) _ refl

pub returns-clause-reads : goal.returns-clause-reads
returns-clause-reads g c =
    let two = told_then (told (c.in_ok-running.ensures.reads _ (counts_running _)) c.in_ok-running.ensures.live) (told (c.in_ok-stopped.ensures.reads _ (counts_stopped _)) c.in_ok-stopped.ensures.live) in
    tells (told_then two (told (c.in_ok-queued.ensures.reads _ (counts_queued _)) c.in_ok-queued.ensures.live)) (λ w sound is. λ i. record { running = is.0.0 i; stopped = is.0.1 i; queued = is.1 i })
