use Rattle.std.proofs.Common.{refl}
use Rattle.queue_load.specs.Tells.{TellsGrant, IsNoGrant, IsFormedGrant}
use Rattle.queue_tables.specs.Values.{grant_values}
use Rattle.queue_load.proofs.Texts.{grants_query, grants_is, grants_reads}
use Rattle.queue_load.proofs.Whole.{table_reads}
use Rattle.queue_load.proofs.load.read_grants.Goals as goal

pub read_table-requires : goal.read_table-requires
read_table-requires g c = record { query = grants_is.query }

pub returns : goal.returns
returns g c =
    let it = c.read_table.ensures in
    record { reads = table_reads grants_query grants_is grants_reads TellsGrant grant_values IsFormedGrant IsNoGrant (λ t r told. told) (λ a b. refl) (λ r none t f. none t f) c.read_table.result it.leaves it.same it.read it.formless }
