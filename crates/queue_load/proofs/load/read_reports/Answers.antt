use Rattle.std.proofs.Common.{refl}
use Rattle.queue_load.specs.Tells.{TellsReport, IsNoReport, IsFormedReport}
use Rattle.queue_tables.specs.Values.{report_values}
use Rattle.queue_load.proofs.Texts.{reports_query, reports_is, reports_reads}
use Rattle.queue_load.proofs.Whole.{table_reads}
use Rattle.queue_load.proofs.load.read_reports.Goals as goal

pub read_table-requires : goal.read_table-requires
read_table-requires g c = record { query = reports_is.query }

pub returns : goal.returns
returns g c =
    let it = c.read_table.ensures in
    record { reads = table_reads reports_query reports_is reports_reads TellsReport report_values IsFormedReport IsNoReport (λ t r told. told) (λ a b. refl) (λ r none t f. none t f) c.read_table.result it.leaves it.same it.read it.formless }
