use Rattle.std.proofs.Common.{drop}
use Rattle.queue_rows.specs.Pieces.{pieces_of}
use Rattle.queue_rows.proofs.RunLemmas.{IsLeft}
use Rattle.queue_rows.proofs.pieces.pieces_follow.Given as goal

abbrev pub invariant-loop-document : goal.invariant-loop-document
invariant-loop-document l = IsLeft pieces_of l.documents l.fn.pieces (drop l.document-index l.documents) l.rest
