use Rattle.std.proofs.Common.{◌≡◌, ◌++◌, ◌∷◌, [], ◌+◌, drop, ap, sym, ◌∙◌, cond}
use Rattle.std.specs.Prelude.{bytes_eq}
use Rattle.std.specs.List.{list_any}
use Rattle.queue_core.specs.World.{owners_after}
use Rattle.list_book.specs.Lists.{texts}
use Rattle.list_book.proofs.Sweeps.{is_among, next_owner, texts_more, among_texts}
use Rattle.list_book.proofs.expiry.owners_of.Goals as goal
use Rattle.list_book.proofs.expiry.owners_of.Goals.{then-not-is_named+in_ok-push, else-not-is_named}

pub loop-job-preserved : goal.loop-job-preserved
loop-job-preserved c =
    let x = c.job-item.result in
    let names = c.loop-job.names.items in
    let rest = drop (c.loop-job.job-index + 1) c.args.jobs.now in
    let owner : c.as_str-owner.result.now ≡ x.owner = c.as_str-owner.ensures in
    let test : c.is_named.result ≡ is_among x.owner (texts names) = c.is_named.ensures ∙ (λ i. list_any (λ a. bytes_eq (owner i) a.now) (c.as_slice.ensures.value i)) ∙ among_texts x.owner names in
    let before = ap (λ b. owners_after (cond b (texts names) (texts names ++ x.owner ∷ [])) rest) test ∙ sym (next_owner (texts names) c.args.jobs.now c.loop-job.job-index x c.loop-job-test.true c.job-item.is) ∙ c.loop-job.invariant in
    elim c.if-not-is_named.branch [
      | then-not-is_named+in_ok-push w ↦ ap (λ v. owners_after (texts v.items) rest) w.names-is
          ∙ ap (λ v. owners_after (texts v) rest) w.in_ok-push.ensures.items
          ∙ ap (λ v. owners_after v rest) (texts_more names c.as_str-owner.result ∙ ap (λ o. texts names ++ o ∷ []) owner)
          ∙ sym (ap (λ b. owners_after (cond b (texts names) (texts names ++ x.owner ∷ [])) rest) w.if-not-is_named.true)
          ∙ before
      | else-not-is_named w ↦ ap (λ v. owners_after (texts v.items) rest) w.names-is ∙ sym (ap (λ b. owners_after (cond b (texts names) (texts names ++ x.owner ∷ [])) rest) w.if-not-is_named.false) ∙ before
    ]
