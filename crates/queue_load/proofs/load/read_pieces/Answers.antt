use Rattle.sqlite.specs.Held.{state}
use Rattle.queue_load.specs.Loaded.{IsFormedWhole, whole_piece}
use Rattle.queue_load.specs.Tells.{IsNoPiece}
use Rattle.queue_load.proofs.Pieces.{pieces_read}
use Rattle.queue_tables.specs.Tables.{schema_of}
use Rattle.queue_load.proofs.Telling.{reads_by}
use Rattle.queue_load.proofs.Texts.{pieces_query, pieces_is, pieces_reads}
use Rattle.queue_load.proofs.Whole.{knows, table_formless}
use Rattle.queue_load.proofs.load.read_pieces.Goals as goal

pub read_table-requires : goal.read_table-requires
read_table-requires g c = record { query = pieces_is.query }

pub returns : goal.returns
returns g c =
    let first = state g.S.Store c.args.conn.now in
    let it = c.read_table.ensures in
    record {
      reads = reads_by c.read_table.result it.leaves it.same (knows pieces_query pieces_is pieces_reads first) it.read it.formless
          (λ n schema v has. pieces_read n first v.items schema has)
          (λ n schema found. table_formless pieces_query pieces_is (schema_of n) (pieces_reads n) whole_piece IsFormedWhole IsNoPiece (λ r none p f is. none p.row f.0 (record { bytes = p.bytes; is = is; long = f.1 })) first schema found);
    }
