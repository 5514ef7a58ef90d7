use Rattle.std.proofs.Common.{rules}
use Rattle.queue_rows.proofs.AmountLemmas.{live_is, live_of, owner_of, totals_told}
use Rattle.queue_rows.proofs.amounts.live_totals.Goals as goal

pub returns : goal.returns
returns c = totals_told c.totals.result _ c.args.jobs.now owner_of live_of _ (λ x p told. search (rules, told.shows, told.says.met)) (λ q. live_is q c.args.jobs.now) c.totals.ensures
