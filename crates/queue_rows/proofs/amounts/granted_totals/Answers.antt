use Rattle.std.proofs.Common.{refl, rules}
use Rattle.queue_types.specs.declared.event.GrantRow.{GrantRow}
use Rattle.queue_rows.proofs.AmountLemmas.{totals_told}
use Rattle.queue_rows.proofs.amounts.granted_totals.Goals as goal

pub returns : goal.returns
returns c = totals_told c.totals.result _ c.args.grants.now (λ (x : GrantRow). x.account) (λ (x : GrantRow). x.pages) _ (λ x p told. search (rules, told.shows, told.says.met)) (λ q. refl) c.totals.ensures
