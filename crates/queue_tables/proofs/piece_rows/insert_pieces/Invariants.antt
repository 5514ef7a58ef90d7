use Rattle.std.proofs.Common.{◌≡◌, ◌+◌, ◌*◌, ◌<◌, [], Ok, drop, filter, length}
use Rattle.std.specs.Iterator.Adapters.{enumerate_count, enumerate_source}
use Rattle.std.specs.Prelude.{⊤}
use Rattle.std.specs.Slice.Iter.{chunks_rest, chunks_size}
use Rattle.sqlite.specs.Held.{state}
use Rattle.queue_tables.specs.Kept.{HasOne}
use Rattle.queue_tables.specs.Making.{MakesRows}
use Rattle.queue_tables.specs.Steps.{are_numbered, with_pieces}
use Rattle.queue_tables.proofs.piece_rows.insert_pieces.Given as goal

abbrev pub invariant-loop-k : goal.invariant-loop-k
invariant-loop-k g l =
    let first = state g.S.Store l.fn.tx.conn.now in
    let now = state g.S.Store l.tx.conn.now in
    let count = enumerate_count l.k-iterator in
    let pieces = enumerate_source l.k-iterator in
    (goal.iterator-loop-k g).can_next l.k-iterator
    × (goal.iterator-loop-k g).is_finite l.k-iterator
    × (chunks_size pieces ≡ 65536)
    × (chunks_rest pieces ≡ drop (count * 65536) l.fn.bytes)
    × (count * 65536 < length l.fn.bytes + 65536)
    × (l.tx.conn.ghost_name ≡ l.fn.tx.conn.ghost_name)
    × MakesRows {T = ⊤} first now (Ok tt) (λ c. HasOne (are_numbered l.fn.job l.fn.doc) c.documents × (filter (are_numbered l.fn.job l.fn.doc) c.pieces ≡ [])) (with_pieces l.fn.job l.fn.doc l.fn.bytes count)
