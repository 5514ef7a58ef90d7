use Rattle.std.proofs.Common.{◌≡◌, ◌<◌, ◌++◌, List, ℕ, All, length, take, get_or, filter, bytes_eq, sym, ap, subst, ◌∙◌, arith}
use Rattle.std.proofs.lemmas.List.{get_or_default, take_all}
use Rattle.queue_core.specs.Limits.{IsSoundJob}
use Rattle.queue_core.specs.World.{rows}
use Rattle.queue_types.specs.declared.job.Job.{Job}
use Rattle.queue_scenes.proofs.Lists.{world_rising}
use Rattle.queue_scenes.proofs.Picked.{all_more, before_next, picked, picked_more, picked_none, taken_more}
use Rattle.queue_tables.proofs.Telling.{fails_behind, tells, told, told_as, told_then, told_yet}
use Rattle.queue_scenes.proofs.own_numbers.owned_of.Goals as goal

pub loop-number-init : goal.loop-number-init
loop-number-init g c = record {
  read = told_yet (λ w sound. c.new-own.ensures.items ∙ sym (picked_none (λ (j : Job). bytes_eq j.owner c.args.owner.now) (rows w)));
  sound = subst (λ (js : List Job). All IsSoundJob js) (sym c.new-own.ensures.items) (λ k d low. absurd (omega (arith, low)));
}

pub loop-number-preserved : goal.loop-number-preserved
loop-number-preserved g c =
    let first = c.loop-number.invariant in
    let found = c.in_ok-found.ensures in
    let ns = c.args.numbers.now in
    let i = c.loop-number.number-index in
    let k = get_or c.args.numbers.now c.loop-number.number-index 0 in
    let p = λ (j : Job). bytes_eq j.owner c.args.owner.now in
    let low : c.loop-number.number-index < length c.args.numbers.now = c.loop-number-test.true in
    let at : k ≡ get_or ns i k = get_or_default ns i 0 k low in
    let added = c.in_ok-append.ensures.items ∙ ap (λ (js : List Job). c.loop-number.own.items ++ js) c.keep_owned.ensures in
    record {
      read = told_as (told_then first.read (told found.reads found.live)) (λ w sound is.
          added ∙ (λ t. is.0 t ++ filter p (is.1 t)) ∙ sym (picked_more p (take i ns) k (rows w) (before_next ns i k c.requires low at) (world_rising w sound))
          ∙ ap (λ (ms : List ℕ). picked p ms (rows w)) (sym (taken_more ns i k low at)));
      sound = subst (λ (js : List Job). All IsSoundJob js) (sym added) (all_more IsSoundJob p c.loop-number.own.items c.in_ok-found.found.items first.sound found.sound);
    }

pub returns-in_err-found-clause-reads : goal.returns-in_err-found-clause-reads
returns-in_err-found-clause-reads g c = fails_behind c.loop-number.invariant.read.leaves c.in_err-found.ensures.reads _ c.from_residual.ensures.1

pub returns-clause-reads : goal.returns-clause-reads
returns-clause-reads g c = tells c.loop-number.invariant.read (λ w sound is.
    is ∙ ap (λ (ms : List ℕ). picked (λ (j : Job). bytes_eq j.owner c.args.owner.now) ms (rows w)) (take_all c.loop-number.number-index c.args.numbers.now c.loop-number-test.false))
