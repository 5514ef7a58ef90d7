use Rattle.std.proofs.Common.{ap, sym, subst, ◌∙◌, bytes_eq}
use Rattle.std.specs.List.Sorted.{IsStrictlySortedBy}
use Rattle.std.specs.Ordering.{nat_cmp}
use Rattle.queue_core.specs.World.{rows}
use Rattle.queue_types.specs.declared.job.Job.{Job}
use Rattle.queue_scenes.proofs.Picked.{has, picked_same}
use Rattle.queue_tables.proofs.Telling.{tells_as, tells_behind, told_while}
use Rattle.queue_scenes.proofs.own_numbers.numbered_jobs.Goals as goal

pub picked_of-requires : goal.picked_of-requires
picked_of-requires g c = subst (IsStrictlySortedBy nat_cmp) (sym c.as_slice-asked.ensures.value) c.in_ok-wanted.ensures.rising

pub owned_of-requires : goal.owned_of-requires
owned_of-requires g c = subst (IsStrictlySortedBy nat_cmp) (sym c.as_slice-asked.ensures.value) c.in_ok-wanted.ensures.rising

pub returns-then-many-clause-reads : goal.returns-then-many-clause-reads
returns-then-many-clause-reads g c = tells_as (tells_behind (told_while c.in_ok-many.ensures.reads c.in_ok-many.ensures.live) c.picked_of.ensures.reads) (λ w sound v is.
    is.1 ∙ picked_same (λ (j : Job). bytes_eq j.owner c.args.owner.now) c.as_slice-asked.result.now c.args.numbers.now (λ q. ap (has q) c.as_slice-asked.ensures.value ∙ c.in_ok-wanted.ensures.same q) (rows w))

pub returns-clause-live : goal.returns-clause-live
returns-clause-live g c clean was = c.owned_of.ensures.live clean (c.in_ok-many.ensures.live (c.owned_of.ensures.reads.leaves.clean clean) was)

pub returns-clause-reads : goal.returns-clause-reads
returns-clause-reads g c = tells_as (tells_behind (told_while c.in_ok-many.ensures.reads c.in_ok-many.ensures.live) c.owned_of.ensures.reads) (λ w sound v is.
    is.1 ∙ picked_same (λ (j : Job). bytes_eq j.owner c.args.owner.now) c.as_slice-asked.result.now c.args.numbers.now (λ q. ap (has q) c.as_slice-asked.ensures.value ∙ c.in_ok-wanted.ensures.same q) (rows w))
