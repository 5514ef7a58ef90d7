use Rattle.std.proofs.Common.{refl}
use Rattle.queue_load.specs.Tells.{TellsDocument, IsNoDocument, IsFormedDocument}
use Rattle.queue_tables.specs.Values.{document_values}
use Rattle.queue_load.proofs.Texts.{documents_query, documents_is, documents_reads}
use Rattle.queue_load.proofs.Whole.{table_reads}
use Rattle.queue_load.proofs.load.read_documents.Goals as goal

pub read_table-requires : goal.read_table-requires
read_table-requires g c = record { query = documents_is.query }

pub returns : goal.returns
returns g c =
    let it = c.read_table.ensures in
    record { reads = table_reads documents_query documents_is documents_reads TellsDocument document_values IsFormedDocument IsNoDocument (λ t r told. told) (λ a b. refl) (λ r none t f. none t f) c.read_table.result it.leaves it.same it.read it.formless }
