use Rattle.std.proofs.Common.{List, All, ap, bytes_eq, filter, subst, sym, ◌∙◌}
use Rattle.std.proofs.lemmas.List.Elements.{All-filter}
use Rattle.queue_core.specs.Limits.{IsSoundJob}
use Rattle.queue_core.specs.Shown.{is_charged}
use Rattle.queue_core.specs.World.{rows}
use Rattle.queue_types.specs.declared.job.Job.{Job}
use Rattle.queue_scenes.proofs.Picked.{picked_among}
use Rattle.queue_tables.proofs.Telling.{tells, told}
use Rattle.queue_scenes.proofs.sheets.charged_jobs.Goals as goal

pub returns-clause-reads : goal.returns-clause-reads
returns-clause-reads g c = tells (told c.in_ok-jobs.ensures.reads c.in_ok-jobs.ensures.live) (λ w sound is.
    c.from_items.ensures ∙ c.keep_charged.ensures ∙ ap (filter is_charged) is ∙ picked_among (λ (j : Job). bytes_eq j.owner c.args.account.now) is_charged (rows w))

pub returns-clause-sound : goal.returns-clause-sound
returns-clause-sound g c =
    subst (λ (js : List Job). All IsSoundJob js) (sym (c.from_items.ensures ∙ c.keep_charged.ensures)) (All-filter is_charged IsSoundJob c.in_ok-jobs.jobs.items c.in_ok-jobs.ensures.sound)
