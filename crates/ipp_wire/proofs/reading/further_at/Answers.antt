use Rattle.ipp_wire.proofs.Pieces.{no_record_further}
use Rattle.ipp_wire.proofs.reading.further_at.Goals as goal

pub returns-in_err-record-clause-none : goal.returns-in_err-record-clause-none
returns-in_err-record-clause-none c = rw c.from_residual.ensures (no_record_further c.args.depth c.args.bytes.now c.in_err-record.ensures.none)
