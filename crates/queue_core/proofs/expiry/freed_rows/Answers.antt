use Rattle.std.proofs.Common.{◌≡◌, ◌<◌, ◌^◌, arith, sym, subst}
use Rattle.std.proofs.lemmas.List.{take_more}
use Rattle.std.proofs.lemmas.Grind.{common_steps}
use Rattle.queue_core.proofs.AmountLemmas.{reserved_bound}
use Rattle.queue_core.specs.Sound.{reserved_for}
use Rattle.queue_core.proofs.expiry.freed_rows.Goals as goal

pub free_with-requires-clause-few : goal.free_with-requires-clause-few
free_with-requires-clause-few c =
    let is : c.total_of-back.result ≡ reserved_for c.row-item.result.account c.args.jobs.now = search arith in
    subst (λ n. n < 2 ^ 60) (sym is) (reserved_bound c.row-item.result.account c.args.jobs.now c.requires.amounts c.requires.few)

pub loop-row-preserved : goal.loop-row-preserved
loop-row-preserved c = grind (arith, common_steps, take_more, c.in_ok-push.ensures.items, c.free_with.ensures, c.total_of-back.ensures, c.in_ok-account.ensures, c.row-item.is)
