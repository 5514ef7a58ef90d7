use Rattle.std.proofs.Common.{sym, subst, ◌∙◌, arith}
use Rattle.queue_core.specs.Limits.{IsFair}
use Rattle.queue_core.specs.World.{jobs_scene}
use Rattle.queue_tables.proofs.Telling.{fails_behind, tells, told, told_then}
use Rattle.queue_scenes.proofs.call_scene.scene_of_printer.Goals as goal

pub returns-clause-fair : goal.returns-clause-fair
returns-clause-fair g c = subst IsFair (sym c.in_ok-scene.ensures.scene) (record {
  settings = c.in_ok-scene.ensures.settings;
  jobs = λ k d low. absurd (omega (arith, low));
  few = omega arith;
  free = λ k d low. absurd (omega (arith, low));
  next = c.in_ok-next.ensures.least;
  queued = c.in_ok-counts.ensures.few;
  report = tt;
  known = λ k d low. absurd (omega (arith, low));
})

pub returns-in_err-next-clause-reads : goal.returns-in_err-next-clause-reads
returns-in_err-next-clause-reads g c = fails_behind c.all_counts.ensures.reads.leaves c.in_err-next.ensures.reads _ c.from_residual-in_err-next.ensures.1

pub returns-clause-reads : goal.returns-clause-reads
returns-clause-reads g c = tells (told_then (told c.in_ok-counts.ensures.reads c.in_ok-counts.ensures.live) (told c.in_ok-next.ensures.reads c.in_ok-next.ensures.live)) (λ w sound is settings_are.
    c.in_ok-scene.ensures.scene ∙ (λ i. record (jobs_scene (settings_are i) (c.new-jobs.ensures.items i) (c.new-free.ensures.items i)) { counts = is.0 i; next = is.1 i }))
