use Rattle.std.proofs.Common.{refl, rules}
use Rattle.queue_rows.specs.declared.rows.AccountRow.{AccountRow}
use Rattle.queue_rows.proofs.AmountLemmas.{totals_told}
use Rattle.queue_rows.proofs.amounts.name_totals.Goals as goal

pub returns : goal.returns
returns c = totals_told c.totals.result _ c.args.accounts.now (λ (x : AccountRow). x.name) (λ (x : AccountRow). 1) _ (λ x p told. search (rules, told.shows, told.says.met)) (λ q. refl) c.totals.ensures
