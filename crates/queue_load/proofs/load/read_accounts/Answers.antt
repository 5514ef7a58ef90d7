use Rattle.std.proofs.Common.{refl}
use Rattle.queue_load.specs.Tells.{TellsAccount, IsNoAccount, IsFormedAccount, account_row_values}
use Rattle.queue_load.proofs.Texts.{accounts_query, accounts_is, accounts_reads}
use Rattle.queue_load.proofs.Whole.{table_reads}
use Rattle.queue_load.proofs.load.read_accounts.Goals as goal

pub read_table-requires : goal.read_table-requires
read_table-requires g c = record { query = accounts_is.query }

pub returns : goal.returns
returns g c =
    let it = c.read_table.ensures in
    record { reads = table_reads accounts_query accounts_is accounts_reads TellsAccount account_row_values IsFormedAccount IsNoAccount (λ t r told. told) (λ a b. refl) (λ r none t f. none t f) c.read_table.result it.leaves it.same it.read it.formless }
