-- What is read past the end of a list of rows, as a check prints it.
use Rattle.std.specs.Prelude.{[], pos}
use Rattle.queue_types.specs.declared.document.Format.TheVariants.{OctetStream}
use Rattle.queue_types.specs.declared.event.GrantRow.{GrantRow}
use Rattle.queue_types.specs.declared.event.KeptReport.{KeptReport}
use Rattle.queue_types.specs.declared.event.Kind.TheVariants.{Start}
use Rattle.queue_types.specs.declared.states.JobState.TheVariants.{Pending}
use Rattle.queue_rows.specs.declared.rows.AccountRow.{AccountRow}
use Rattle.queue_rows.specs.declared.rows.DocumentRow.{DocumentRow}
use Rattle.queue_rows.specs.declared.rows.PieceRow.{PieceRow}

abbrev pub no_piece : PieceRow
no_piece = record { job = 0; doc = 0; piece = 0; length = 0 }

abbrev pub no_document : DocumentRow
no_document = record { job = 0; doc = 0; format = OctetStream; octets = 0 }

abbrev pub no_report : KeptReport
no_report = record { report = record { job = 0; seq = 0; kind = Start; count = 0 }; state = Pending; total = 0 }

abbrev pub no_grant : GrantRow
no_grant = record { batch = []; account = []; pages = 0 }

abbrev pub no_account : AccountRow
no_account = record { name = []; free = pos 0; reserved = 0; printed = 0 }
