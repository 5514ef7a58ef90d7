use Rattle.std.proofs.Common.{◌≡◌, length, sym, subst, ap, ◌∙◌, arith, List, filter}
use Rattle.std.specs.Prelude.{All}
use Rattle.queue_types.specs.declared.job.Job.{Job}
use Rattle.queue_core.specs.Limits.{IsFair, IsSoundJob}
use Rattle.queue_core.specs.World.{has_expired, jobs_scene, owners, rows, rows_of_accounts}
use Rattle.queue_scenes.proofs.Bounds.{expired_fit, jobs_scene_fair}
use Rattle.queue_tables.proofs.Telling.{fails_behind, refuses, tells, told, told_then, told_while}
use Rattle.queue_scenes.proofs.expiry_scene.scene_of_expire.Goals as goal

pub returns-clause-live : goal.returns-clause-live
returns-clause-live g c clean = c.in_ok-free.ensures.live clean (c.in_ok-jobs.ensures.live (c.accounts_of_owners.ensures.reads.leaves.clean clean))

pub returns-clause-fair : goal.returns-clause-fair
returns-clause-fair g c = subst IsFair (sym c.in_ok-scene.ensures.scene) (jobs_scene_fair _ _ _ c.in_ok-scene.ensures.settings (subst (All IsSoundJob) (sym c.in_ok-jobs-2.ensures.same) c.in_ok-jobs.ensures.sound) c.in_ok-jobs-2.ensures.few c.in_ok-free.ensures.within)

pub returns-in_err-jobs-2-clause-reads : goal.returns-in_err-jobs-2-clause-reads
returns-in_err-jobs-2-clause-reads g c =
    refuses (told c.in_ok-jobs.ensures.reads c.in_ok-jobs.ensures.live) c.in_ok-jobs.ensures.live (λ d w sound is.
    let most = expired_fit w c.keep.result c.args.now sound in
    let same = ap (length {A = Job}) is in
    let many = c.in_err-jobs-2.ensures.damaged in
    omega (arith, most, same, many)) _ c.from_residual-in_err-jobs-2.ensures.1

pub returns-in_err-free-clause-reads : goal.returns-in_err-free-clause-reads
returns-in_err-free-clause-reads g c = fails_behind c.expired_jobs.ensures.reads.leaves c.in_err-free.ensures.reads _ c.from_residual-in_err-free.ensures.1

pub returns-clause-reads : goal.returns-clause-reads
returns-clause-reads g c = tells (told_then (told c.in_ok-jobs.ensures.reads c.in_ok-jobs.ensures.live) (told_while c.in_ok-free.ensures.reads c.in_ok-free.ensures.live)) (λ w sound is settings_are.
    let keep : c.keep.result ≡ w.settings.keep = c.keep.ensures.keep ∙ ap (λ s. s.keep) settings_are in
    let jobs : c.in_ok-jobs-2.jobs.items ≡ filter (has_expired w.settings.keep c.args.now) (rows w) = c.in_ok-jobs-2.ensures.same ∙ is.0 ∙ ap (λ k. filter (has_expired k c.args.now) (rows w)) keep in
    let free = is.1 ∙ ap (λ (js : List Job). rows_of_accounts w.free (owners js)) (c.as_slice.ensures.value ∙ jobs) in
    c.in_ok-scene.ensures.scene ∙ (λ i. jobs_scene (settings_are i) (jobs i) (free i)))
