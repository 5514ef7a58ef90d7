use Rattle.std.proofs.Common.{sym, ap, subst, ◌∙◌, arith}
use Rattle.queue_core.specs.Limits.{IsFair}
use Rattle.queue_core.specs.World.{jobs_scene, owner_row}
use Rattle.queue_tables.proofs.Telling.{fails_behind, tells, told, told_then, told_while}
use Rattle.queue_tables.proofs.Leaving.{leaves_then}
use Rattle.queue_scenes.proofs.event_scene.scene_of_report.Goals as goal

pub returns-clause-live : goal.returns-clause-live
returns-clause-live g c clean = c.in_ok-free.ensures.live clean (c.in_ok-jobs.ensures.live (c.owner_rows.ensures.reads.leaves.clean clean))

pub returns-clause-fair : goal.returns-clause-fair
returns-clause-fair g c = subst IsFair (sym c.in_ok-scene.ensures.scene) (record {
  settings = c.in_ok-scene.ensures.settings;
  jobs = c.in_ok-jobs.ensures.sound;
  few = let few = c.in_ok-jobs.ensures.few in omega (arith, few);
  free = c.in_ok-free.ensures.within;
  next = omega arith;
  queued = omega arith;
  report = c.in_ok-report.ensures.within;
  known = λ k d low. absurd (omega (arith, low));
})

pub returns-in_err-jobs-clause-reads : goal.returns-in_err-jobs-clause-reads
returns-in_err-jobs-clause-reads g c = fails_behind c.kept_report.ensures.reads.leaves c.in_err-jobs.ensures.reads _ c.from_residual-in_err-jobs.ensures.1

pub returns-in_err-free-clause-reads : goal.returns-in_err-free-clause-reads
returns-in_err-free-clause-reads g c = fails_behind (leaves_then _ _ _ c.kept_report.ensures.reads.leaves c.only_job.ensures.reads.leaves) c.in_err-free.ensures.reads _ c.from_residual-in_err-free.ensures.1

pub returns-clause-reads : goal.returns-clause-reads
returns-clause-reads g c =
    let two = told_then (told c.in_ok-report.ensures.reads c.in_ok-report.ensures.live) (told c.in_ok-jobs.ensures.reads c.in_ok-jobs.ensures.live) in
    tells (told_then two (told_while c.in_ok-free.ensures.reads c.in_ok-free.ensures.live)) (λ w sound is settings_are.
    let jobs = is.0.1 in
    let free = is.1 ∙ ap (owner_row w.free) (c.as_slice.ensures.value ∙ jobs) in
    c.in_ok-scene.ensures.scene ∙ (λ i. record (jobs_scene (settings_are i) (jobs i) (free i)) { report = is.0.0 i }))
