use Rattle.std.proofs.Common.{◌≡◌, ◌++◌, List, ℕ}
use Rattle.std.specs.Slice.Iter.{chunks_rest, chunks_size}
use Rattle.std.specs.Io.KnownBytes.{Appends}
use Rattle.hex.specs.Hex.{encode_lower}
use Rattle.replay.proofs.hexadecimal.put_hex.Given as goal

abbrev pub invariant-loop-piece : goal.invariant-loop-piece
invariant-loop-piece g l = (done : List ℕ)
    × (l.bytes ≡ done ++ chunks_rest l.piece-iterator)
    × (chunks_size l.piece-iterator ≡ 512)
    × Appends (g.W.Write.contents l.initial.writer) (g.W.Write.contents l.writer) (encode_lower done)
