use Rattle.std.proofs.Common.{sym, subst, ◌∙◌, arith}
use Rattle.queue_core.specs.Limits.{IsFair}
use Rattle.queue_core.specs.World.{jobs_scene}
use Rattle.queue_scenes.proofs.Bounds.{jobs_scene_fair}
use Rattle.queue_tables.proofs.Telling.{fails_behind, tells, told, told_then}
use Rattle.queue_scenes.proofs.call_scene.scene_of_job_and_account.Goals as goal

pub returns-clause-fair : goal.returns-clause-fair
returns-clause-fair g c = subst IsFair (sym c.in_ok-scene.ensures.scene) (jobs_scene_fair _ _ _ c.in_ok-scene.ensures.settings c.in_ok-jobs.ensures.sound (let few = c.in_ok-jobs.ensures.few in omega (arith, few)) c.in_ok-free.ensures.within)

pub returns-in_err-jobs-clause-reads : goal.returns-in_err-jobs-clause-reads
returns-in_err-jobs-clause-reads g c = fails_behind c.free_rows.ensures.reads.leaves c.in_err-jobs.ensures.reads _ c.from_residual-in_err-jobs.ensures.1

pub returns-clause-reads : goal.returns-clause-reads
returns-clause-reads g c = tells (told_then (told c.in_ok-free.ensures.reads c.in_ok-free.ensures.live) (told c.in_ok-jobs.ensures.reads c.in_ok-jobs.ensures.live)) (λ w sound is settings_are.
    c.in_ok-scene.ensures.scene ∙ (λ i. jobs_scene (settings_are i) (is.1 i) (is.0 i)))
