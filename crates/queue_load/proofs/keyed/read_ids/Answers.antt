use Rattle.std.proofs.Common.{refl}
use Rattle.sqlite.specs.Held.{state}
use Rattle.queue_load.specs.Keyed.{TellsId, IsNoId, id_values}
use Rattle.queue_load.proofs.KeyLemmas.{any_id, ids_formed}
use Rattle.queue_tables.specs.Tables.{schema_of}
use Rattle.queue_load.proofs.Telling.{reads_by}
use Rattle.queue_load.proofs.Texts.{rowids_query, rowids_is, rowids_reads}
use Rattle.queue_load.proofs.Whole.{knows, table_read, table_formless}
use Rattle.queue_load.proofs.keyed.read_ids.Goals as goal

pub read_table-requires : goal.read_table-requires
read_table-requires g c = record { query = rowids_is.query }

pub returns : goal.returns
returns g c =
    let first = state g.S.Store c.args.conn.now in
    let it = c.read_table.ensures in
    record {
      reads = reads_by c.read_table.result it.leaves it.same (knows rowids_query rowids_is rowids_reads first) it.read it.formless
          (λ n schema v has. table_read rowids_query rowids_is (schema_of n) (rowids_reads n) TellsId id_values (λ t r told. told) (λ a b. refl) first v.items schema has)
          (λ n schema found keyed. table_formless rowids_query rowids_is (schema_of n) (rowids_reads n) id_values any_id IsNoId (λ r none t f. none t) first schema found (ids_formed (first.now.trees 6) keyed));
    }
