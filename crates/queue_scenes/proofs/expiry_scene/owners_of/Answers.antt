use Rattle.std.proofs.Common.{◌≡◌, Bor, List, ℕ, ◌∙◌, ap, bytes_eq, false, sym, true}
use Rattle.std.specs.BTreeMap.{is_at}
use Rattle.std.specs.Cmp.Lexicographic.{slice_cmp}
use Rattle.std.specs.List.{list_any}
use Rattle.std.specs.Ordering.{nat_cmp}
use Rattle.std.proofs.lemmas.Bool.{OnFalse_at, not-false, not-true}
use Rattle.std.proofs.lemmas.List.{take_all}
use Rattle.queue_core.specs.World.{owners}
use Rattle.queue_scenes.specs.Expiry.{texts, with_one}
use Rattle.queue_scenes.proofs.Owners.{owners_more, put_last, seen_more, still_there}
use Rattle.queue_scenes.proofs.expiry_scene.owners_of.Goals as goal

pub loop-job-preserved-then-not-branch : goal.loop-job-preserved-then-not-branch
loop-job-preserved-then-not-branch c =
    let names = c.loop-job.names.items in
    let owner = c.as_str-owner.result in
    let there : list_any (λ b. bytes_eq owner.now b) (texts names) ≡ true = sym (c.loop-job.invariant.1 owner) ∙ not-false _ (sym c.in_ok-insert.ensures.added ∙ c.if-not-branch.true) in
    let more = owners_more c.args.jobs.now c.loop-job.job-index c.job-item.result c.loop-job-test.true c.job-item.is in (
      still_there names owner.now there ∙ (λ t. with_one (c.loop-job.invariant.0 t) (c.as_str-owner.ensures t)) ∙ sym more,
      λ q. ap (list_any (is_at (λ k. slice_cmp nat_cmp q.now k.now))) (OnFalse_at c.if-not-branch.true c.in_ok-insert.ensures.unchanged) ∙ c.loop-job.invariant.1 q,
    )

pub loop-job-preserved : goal.loop-job-preserved
loop-job-preserved c =
    let names = c.loop-job.names.items in
    let owner = c.as_str-owner.result in
    let none : list_any (λ b. bytes_eq owner.now b) (texts names) ≡ false = sym (c.loop-job.invariant.1 owner) ∙ not-true _ (sym c.in_ok-insert.ensures.added ∙ c.if-not-branch.false) in
    let more = owners_more c.args.jobs.now c.loop-job.job-index c.job-item.result c.loop-job-test.true c.job-item.is in (
      ap texts c.in_ok-push.ensures.items ∙ put_last names owner none ∙ (λ t. with_one (c.loop-job.invariant.0 t) (c.as_str-owner.ensures t)) ∙ sym more,
      λ q. c.in_ok-insert.ensures.updates.0 q ∙ seen_more names owner q.now _ (c.loop-job.invariant.1 q) ∙ ap (λ (ns : List (Bor (List ℕ))). list_any (λ b. bytes_eq q.now b) (texts ns)) (sym c.in_ok-push.ensures.items),
    )

pub returns : goal.returns
returns c = c.loop-job.invariant.0 ∙ ap owners (take_all c.loop-job.job-index c.args.jobs.now c.loop-job-test.false)
