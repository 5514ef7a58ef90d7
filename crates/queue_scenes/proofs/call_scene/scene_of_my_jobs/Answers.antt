use Rattle.std.proofs.Common.{length, sym, subst, ap, ◌∙◌, arith}
use Rattle.std.specs.Prelude.{All}
use Rattle.queue_types.specs.Event.{cancel_my_jobs}
use Rattle.queue_types.specs.declared.job.Job.{Job}
use Rattle.queue_core.specs.Limits.{IsFair, IsSoundJob}
use Rattle.queue_core.specs.World.{jobs_scene}
use Rattle.queue_scenes.proofs.Bounds.{jobs_fit, jobs_scene_fair}
use Rattle.queue_tables.proofs.Telling.{fails_behind, refuses, tells, told, told_then, told_while}
use Rattle.queue_scenes.proofs.call_scene.scene_of_my_jobs.Goals as goal

pub returns-clause-live : goal.returns-clause-live
returns-clause-live g c clean = c.in_ok-jobs.ensures.live clean (c.in_ok-free.ensures.live (c.my_jobs.ensures.reads.leaves.clean clean))

pub returns-clause-fair : goal.returns-clause-fair
returns-clause-fair g c = subst IsFair (sym c.in_ok-scene.ensures.scene) (jobs_scene_fair _ _ _ c.in_ok-scene.ensures.settings (subst (All IsSoundJob) (sym c.in_ok-jobs-2.ensures.same) c.in_ok-jobs.ensures.sound) c.in_ok-jobs-2.ensures.few c.in_ok-free.ensures.within)

pub returns-in_err-jobs-clause-reads : goal.returns-in_err-jobs-clause-reads
returns-in_err-jobs-clause-reads g c = fails_behind c.free_rows.ensures.reads.leaves c.in_err-jobs.ensures.reads _ c.from_residual-in_err-jobs.ensures.1

pub returns-in_err-jobs-2-clause-reads : goal.returns-in_err-jobs-2-clause-reads
returns-in_err-jobs-2-clause-reads g c =
    let read = told_then (told c.in_ok-free.ensures.reads c.in_ok-free.ensures.live) (told_while c.in_ok-jobs.ensures.reads c.in_ok-jobs.ensures.live) in
    refuses read (λ clean. c.in_ok-jobs.ensures.live clean (c.in_ok-free.ensures.live (c.my_jobs.ensures.reads.leaves.clean clean))) (λ d w sound is.
    let most = jobs_fit w c.args.caller.now (cancel_my_jobs c.args.numbers.now) sound in
    let same = ap (length {A = Job}) is.1 in
    let many = c.in_err-jobs-2.ensures.damaged in
    omega (arith, most, same, many)) _ c.from_residual-in_err-jobs-2.ensures.1

pub returns-clause-reads : goal.returns-clause-reads
returns-clause-reads g c = tells (told_then (told c.in_ok-free.ensures.reads c.in_ok-free.ensures.live) (told_while c.in_ok-jobs.ensures.reads c.in_ok-jobs.ensures.live)) (λ w sound is settings_are.
    let jobs = c.in_ok-jobs-2.ensures.same ∙ is.1 in
    c.in_ok-scene.ensures.scene ∙ (λ i. jobs_scene (settings_are i) (jobs i) (is.0 i)))
