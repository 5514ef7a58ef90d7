use Rattle.std.proofs.Common.{get_or, sym}
use Rattle.queue_rows.proofs.AmountLemmas.{sums_same}
use Rattle.queue_rows.proofs.balances.accounts_are_balanced.Goals as goal

pub returns : goal.returns
returns c = λ gs granted.
    let reserved = c.in_ok-reserved.ensures in
    let printed = c.in_ok-printed.ensures in (
      λ t k d lt. let a = get_or c.args.accounts.now k d in sums_same a (granted a.name) (reserved a.name) (printed a.name) (c.are_balanced.ensures.0 t k d lt),
      λ all. c.are_balanced.ensures.1 (λ k d lt. let a = get_or c.args.accounts.now k d in sums_same a (sym (granted a.name)) (sym (reserved a.name)) (sym (printed a.name)) (all k d lt)),
    )
