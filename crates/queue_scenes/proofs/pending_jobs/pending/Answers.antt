use Rattle.std.proofs.Common.{◌∙◌}
use Rattle.queue_scenes.proofs.Lists.{selects_pending}
use Rattle.queue_tables.proofs.Telling.{fails_behind, tells, told}
use Rattle.queue_scenes.proofs.Statements.{select_pending_is}
use Rattle.queue_tables.proofs.Leaving.{leaves_all}
use Rattle.queue_scenes.proofs.pending_jobs.pending.Goals as goal

pub select_jobs-requires : goal.select_jobs-requires
select_jobs-requires g c = record { query = select_pending_is.shows.query }

pub returns-clause-reads : goal.returns-clause-reads
returns-clause-reads g c = tells (told (c.in_ok-jobs.ensures.reads _ (selects_pending _)) c.in_ok-jobs.ensures.live) (λ w sound is. c.from_items.ensures ∙ is)

pub returns-in_err-jobs-clause-reads : goal.returns-in_err-jobs-clause-reads
returns-in_err-jobs-clause-reads g c = fails_behind (leaves_all _) (c.in_err-jobs.ensures.reads _ (selects_pending _)) _ c.from_residual.ensures.1
