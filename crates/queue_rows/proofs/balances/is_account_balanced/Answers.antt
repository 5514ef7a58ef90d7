use Rattle.std.proofs.Common.{◌≡◌}
use Rattle.queue_rows.specs.Totals.{total_in}
use Rattle.queue_rows.proofs.balances.is_account_balanced.Goals as goal

pub returns : goal.returns
returns c =
    let granted : c.total_of.result ≡ total_in c.args.granted.now c.args.account.now.name = rw c.as_str-name.ensures at c.total_of.ensures in
    let reserved : c.total_of-2.result ≡ total_in c.args.reserved.now c.args.account.now.name = rw c.as_str-name.ensures at c.total_of-2.ensures in
    let printed : c.total_of-3.result ≡ total_in c.args.printed.now c.args.account.now.name = rw c.as_str-name.ensures at c.total_of-3.ensures in
    rw (granted, reserved, printed) at c.is_balanced.ensures
