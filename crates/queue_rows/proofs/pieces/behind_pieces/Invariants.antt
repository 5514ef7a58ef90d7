use Rattle.std.proofs.Common.{◌≡◌, ℕ, ◌<◌, get_or}
use Rattle.queue_rows.proofs.Defaults.{no_piece}
use Rattle.queue_rows.specs.Pieces.{piece_of}
use Rattle.queue_rows.proofs.pieces.behind_pieces.Given as goal

abbrev pub invariant-loop-k : goal.invariant-loop-k
invariant-loop-k l = (m : ℕ) → m < l.k → get_or l.pieces m no_piece ≡ piece_of l.document m
