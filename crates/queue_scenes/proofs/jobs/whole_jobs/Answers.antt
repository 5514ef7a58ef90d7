use Rattle.std.proofs.Common.{◌≡◌, ◌<◌, ◌≤◌, ◌++◌, ◌∷◌, [], List, Some, All, length, map, get_or, sym, ap, subst, ◌∙◌, arith}
use Rattle.std.proofs.lemmas.List.{length-map, take_all}
use Rattle.std.proofs.lemmas.List.Elements.{All-push}
use Rattle.sqlite.specs.Order.{Row}
use Rattle.queue_core.specs.Limits.{IsSoundJob}
use Rattle.queue_core.specs.World.{job_at, rows}
use Rattle.queue_types.specs.declared.job.Job.{Job}
use Rattle.queue_tables.specs.Content.{content_of}
use Rattle.queue_tables.specs.Values.{job_values}
use Rattle.queue_tables.proofs.Leaving.{leaves_then, holds_after}
use Rattle.queue_scenes.proofs.Whole.{step, taken, has_step}
use Rattle.queue_tables.proofs.Ending.{err_after}
use Rattle.queue_scenes.proofs.jobs.whole_jobs.Goals as goal

pub returns-in_err-whole_job-clause-leaves : goal.returns-in_err-whole_job-clause-leaves
returns-in_err-whole_job-clause-leaves g c = leaves_then _ _ _ c.loop-row.invariant.leaves c.whole_job.ensures.leaves

pub returns-in_err-push-clause-leaves : goal.returns-in_err-push-clause-leaves
returns-in_err-push-clause-leaves g c = leaves_then _ _ _ c.loop-row.invariant.leaves c.whole_job.ensures.leaves

pub loop-row-preserved : goal.loop-row-preserved
loop-row-preserved g c =
    let first = c.loop-row.invariant in
    let made = c.in_ok-whole_job.ensures in
    let i = c.loop-row.row-index in
    let row = c.row-item.result in
    record {
      leaves = leaves_then _ _ _ first.leaves made.leaves;
      live = λ clean was. made.live clean;
      sound = subst (λ (js : List Job). All IsSoundJob js) (sym c.in_ok-push.ensures.items) (All-push IsSoundJob c.loop-row.jobs.items c.in_ok-whole_job.field-0 first.sound made.sound);
      found = λ clean w js sound has are same.
          let early = made.leaves.clean clean in
          let low : i < length (map job_values js) = subst (λ (rs : List Row). i < length rs) same c.loop-row-test.true in
          let at = step js i row low (subst (λ (rs : List Row). row ≡ get_or rs i row) same c.row-item.is) in
          let kept = holds_after first.leaves early (content_of w) has (first.live early has.live) in
          let is = made.found clean w at.job sound kept (has_step (λ (j : Job). job_at j.number (rows w) ≡ Some j) js i row at are) at.row_is in
          let before = first.found early w js sound has are same in
          c.in_ok-push.ensures.items ∙ (λ t. before t ++ is t ∷ []) ∙ sym (taken js i row at);
    }

pub returns-clause-found : goal.returns-clause-found
returns-clause-found g c clean w js sound has are same =
    let long : length js ≤ c.loop-row.row-index = (
    let past = c.loop-row-test.false in
    let same_length = ap (length {A = Row}) same in
    let rows_long = length-map js job_values in
    omega (arith, past, same_length, rows_long)) in
    c.loop-row.invariant.found clean w js sound has are same ∙ take_all c.loop-row.row-index js long

pub returns-in_err-whole_job-clause-damaged : goal.returns-in_err-whole_job-clause-damaged
returns-in_err-whole_job-clause-damaged g c clean = err_after _ c.in_err-whole_job.field-0.0 _ c.from_residual.ensures.1 (λ d w js sound has are same.
    let first = c.loop-row.invariant in
    let i = c.loop-row.row-index in
    let row = c.row-item.result in
    let early = c.whole_job.ensures.leaves.clean clean in
    let low : i < length (map job_values js) = subst (λ (rs : List Row). i < length rs) same c.loop-row-test.true in
    let at = step js i row low (subst (λ (rs : List Row). row ≡ get_or rs i row) same c.row-item.is) in
    let kept = holds_after first.leaves early (content_of w) has (first.live early has.live) in
    c.in_err-whole_job.ensures.damaged clean d w at.job sound kept (has_step (λ (j : Job). job_at j.number (rows w) ≡ Some j) js i row at are) at.row_is)
