use Rattle.std.proofs.Common.{sym, subst, ◌∙◌, arith}
use Rattle.queue_core.specs.Limits.{IsFair}
use Rattle.queue_core.specs.World.{jobs_scene}
use Rattle.queue_scenes.proofs.Bounds.{jobs_scene_fair}
use Rattle.queue_tables.proofs.Telling.{tells, told}
use Rattle.queue_scenes.proofs.call_scene.scene_of_job.Goals as goal

pub returns-clause-fair : goal.returns-clause-fair
returns-clause-fair g c = subst IsFair (sym c.in_ok-scene.ensures.scene) (jobs_scene_fair _ _ _ c.in_ok-scene.ensures.settings c.in_ok-jobs.ensures.sound (let few = c.in_ok-jobs.ensures.few in omega (arith, few)) (λ k d low. absurd (omega (arith, low))))

pub returns-clause-reads : goal.returns-clause-reads
returns-clause-reads g c = tells (told c.in_ok-jobs.ensures.reads c.in_ok-jobs.ensures.live) (λ w sound is settings_are.
    c.in_ok-scene.ensures.scene ∙ (λ i. jobs_scene (settings_are i) (is i) (c.new.ensures.items i)))
