use Rattle.std.proofs.Common.{ap, sym, subst, ◌∙◌, arith}
use Rattle.queue_core.specs.Limits.{IsFair}
use Rattle.queue_core.specs.World.{jobs_scene, owner_row}
use Rattle.queue_scenes.proofs.Bounds.{jobs_scene_fair}
use Rattle.queue_tables.proofs.Telling.{fails_behind, tells, told, told_then, told_while}
use Rattle.queue_scenes.proofs.call_scene.scene_of_cancel.Goals as goal

pub returns-clause-live : goal.returns-clause-live
returns-clause-live g c clean = c.in_ok-free.ensures.live clean (c.in_ok-jobs.ensures.live (c.owner_rows.ensures.reads.leaves.clean clean))

pub returns-clause-fair : goal.returns-clause-fair
returns-clause-fair g c = subst IsFair (sym c.in_ok-scene.ensures.scene) (jobs_scene_fair _ _ _ c.in_ok-scene.ensures.settings c.in_ok-jobs.ensures.sound (let few = c.in_ok-jobs.ensures.few in omega (arith, few)) c.in_ok-free.ensures.within)

pub returns-in_err-free-clause-reads : goal.returns-in_err-free-clause-reads
returns-in_err-free-clause-reads g c = fails_behind c.only_job.ensures.reads.leaves c.in_err-free.ensures.reads _ c.from_residual-in_err-free.ensures.1

pub returns-clause-reads : goal.returns-clause-reads
returns-clause-reads g c =
    tells (told_then (told c.in_ok-jobs.ensures.reads c.in_ok-jobs.ensures.live) (told_while c.in_ok-free.ensures.reads c.in_ok-free.ensures.live)) (λ w sound is settings_are.
    let jobs = is.0 in
    let free = is.1 ∙ ap (owner_row w.free) (c.as_slice.ensures.value ∙ jobs) in
    c.in_ok-scene.ensures.scene ∙ (λ i. jobs_scene (settings_are i) (jobs i) (free i)))
