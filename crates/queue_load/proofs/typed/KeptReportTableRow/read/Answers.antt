use Rattle.std.proofs.Common.{◌∙◌}
use Rattle.queue_load.proofs.Columns.{six, same_six}
use Rattle.queue_load.proofs.typed.KeptReportTableRow.read.Goals as goal

pub returns-clause-ok : goal.returns-clause-ok
returns-clause-ok c = λ len.
    six c.args.row.now len
    ∙ same_six c.in_ok-value.ensures.ok c.in_ok-value-2.ensures.ok c.in_ok-kind.ensures.ok c.in_ok-value-3.ensures.ok c.in_ok-job_state.ensures.ok c.in_ok-value-4.ensures.ok
