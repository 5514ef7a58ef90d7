use Rattle.std.proofs.Common.{refl}
use Rattle.queue_load.specs.Tells.{TellsMeta, IsNoMeta, IsFormedMeta}
use Rattle.queue_tables.specs.Values.{meta_values}
use Rattle.queue_load.proofs.Texts.{meta_query, meta_is, meta_reads}
use Rattle.queue_load.proofs.Whole.{table_reads}
use Rattle.queue_load.proofs.load.read_meta.Goals as goal

pub read_table-requires : goal.read_table-requires
read_table-requires g c = record { query = meta_is.query }

pub returns : goal.returns
returns g c =
    let it = c.read_table.ensures in
    record { reads = table_reads meta_query meta_is meta_reads TellsMeta meta_values IsFormedMeta IsNoMeta (λ t r told. told) (λ a b. refl) (λ r none t f. none t f) c.read_table.result it.leaves it.same it.read it.formless }
