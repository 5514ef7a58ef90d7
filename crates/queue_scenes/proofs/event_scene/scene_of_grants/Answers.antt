use Rattle.std.proofs.Common.{[], sym, subst, ◌∙◌, arith}
use Rattle.queue_core.specs.Limits.{IsFair}
use Rattle.queue_core.specs.World.{jobs_scene}
use Rattle.queue_tables.proofs.Telling.{fails_behind, tells, told, told_then, told_while}
use Rattle.queue_scenes.proofs.event_scene.scene_of_grants.Goals as goal

pub returns-clause-live : goal.returns-clause-live
returns-clause-live g c clean = c.in_ok-known.ensures.live clean (c.in_ok-next.ensures.live (c.known_rows.ensures.reads.leaves.clean clean))

pub returns-clause-fair : goal.returns-clause-fair
returns-clause-fair g c = subst IsFair (sym c.in_ok-scene.ensures.scene) (record {
  settings = c.in_ok-scene.ensures.settings;
  jobs = λ k d low. absurd (omega (arith, low));
  few = omega arith;
  free = λ k d low. absurd (omega (arith, low));
  next = c.in_ok-next.ensures.least;
  queued = omega arith;
  report = tt;
  known = c.in_ok-known.ensures.within;
})

pub returns-in_err-known-clause-reads : goal.returns-in_err-known-clause-reads
returns-in_err-known-clause-reads g c = fails_behind c.next_number.ensures.reads.leaves c.in_err-known.ensures.reads _ c.from_residual-in_err-known.ensures.1

pub returns-clause-reads : goal.returns-clause-reads
returns-clause-reads g c = tells (told_then (told c.in_ok-next.ensures.reads c.in_ok-next.ensures.live) (told_while c.in_ok-known.ensures.reads c.in_ok-known.ensures.live)) (λ w sound is settings_are.
    c.in_ok-scene.ensures.scene ∙ (λ i. record (jobs_scene (settings_are i) [] []) { known = is.1 i; next = is.0 i }))
