use Rattle.std.proofs.Common.{◌≡◌, length, sym, subst, ap, ◌∙◌, arith}
use Rattle.std.specs.Prelude.{All}
use Rattle.queue_types.specs.declared.job.Job.{Job}
use Rattle.queue_core.specs.Limits.{IsFair, IsSoundJob}
use Rattle.queue_core.specs.Visible.{visible}
use Rattle.queue_core.specs.World.{jobs_scene, rows, shows_all}
use Rattle.queue_scenes.proofs.Bounds.{jobs_scene_fair, visible_fit}
use Rattle.queue_tables.proofs.Telling.{refuses, tells, told}
use Rattle.queue_scenes.proofs.call_scene.scene_of_shown.Goals as goal

pub returns-clause-fair : goal.returns-clause-fair
returns-clause-fair g c = subst IsFair (sym c.in_ok-scene.ensures.scene) (jobs_scene_fair _ _ _ c.in_ok-scene.ensures.settings (subst (All IsSoundJob) (sym c.in_ok-jobs-2.ensures.same) c.in_ok-jobs.ensures.sound) c.in_ok-jobs-2.ensures.few (λ k d low. absurd (omega (arith, low))))

pub returns-in_err-jobs-2-clause-reads : goal.returns-in_err-jobs-2-clause-reads
returns-in_err-jobs-2-clause-reads g c =
    refuses (told c.in_ok-jobs.ensures.reads c.in_ok-jobs.ensures.live) c.in_ok-jobs.ensures.live (λ d w sound is.
    let most = visible_fit c.sees_all-all.result c.args.caller.now c.args.which c.args.limit w sound in
    let same = ap (length {A = Job}) is in
    let many = c.in_err-jobs-2.ensures.damaged in
    omega (arith, most, same, many)) _ c.from_residual-in_err-jobs-2.ensures.1

pub returns-clause-reads : goal.returns-clause-reads
returns-clause-reads g c = tells (told c.in_ok-jobs.ensures.reads c.in_ok-jobs.ensures.live) (λ w sound is settings_are.
    let operators : c.operators.result.now ≡ w.settings.operators = c.operators.ensures.operators ∙ ap (λ s. s.operators) settings_are in
    let all : c.sees_all-all.result ≡ shows_all w.settings.operators c.args.caller.now c.args.mine = c.sees_all-all.ensures ∙ ap (λ names. shows_all names c.args.caller.now c.args.mine) operators in
    let jobs = c.in_ok-jobs-2.ensures.same ∙ is ∙ ap (λ b. visible b c.args.caller.now c.args.which c.args.limit (rows w)) all in
    c.in_ok-scene.ensures.scene ∙ (λ i. jobs_scene (settings_are i) (jobs i) (c.new.ensures.items i)))
