use Rattle.std.proofs.Common.{List, All, ap, sym, subst, ◌∙◌, bytes_eq, filter}
use Rattle.std.proofs.lemmas.List.Elements.{All-filter}
use Rattle.queue_core.specs.Limits.{IsSoundJob}
use Rattle.queue_core.specs.World.{rows}
use Rattle.queue_types.specs.declared.job.Job.{Job}
use Rattle.queue_scenes.proofs.Picked.{has, picked_among}
use Rattle.queue_tables.proofs.Telling.{tells, told}
use Rattle.queue_scenes.proofs.own_numbers.picked_of.Goals as goal

pub returns-clause-sound : goal.returns-clause-sound
returns-clause-sound g c =
    let t = λ (j : Job). has j.number c.args.numbers.now in
    subst (λ (js : List Job). All IsSoundJob js) (sym (c.keep_numbered.ensures c.requires)) (All-filter t IsSoundJob c.in_ok-own.own.items c.in_ok-own.ensures.sound)

pub returns-clause-reads : goal.returns-clause-reads
returns-clause-reads g c =
    let t = λ (j : Job). has j.number c.args.numbers.now in
    tells (told c.in_ok-own.ensures.reads c.in_ok-own.ensures.live) (λ w sound is.
    c.keep_numbered.ensures c.requires ∙ ap (filter t) is ∙ picked_among (λ (j : Job). bytes_eq j.owner c.args.owner.now) t (rows w))
