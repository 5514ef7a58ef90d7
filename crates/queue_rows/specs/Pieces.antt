-- The pieces of a document: numbered from 0, of 65,536 octets each, and the last of what is left.
use Rattle.std.specs.Prelude.{ℕ, ◌-◌, ◌*◌, List, map, take, drop, length, min}
use Rattle.std.specs.Int.{div_ceil}
use Rattle.std.specs.List.{range_with_len}
use Rattle.queue_rows.specs.declared.rows.DocumentRow.{DocumentRow}
use Rattle.queue_rows.specs.declared.rows.PieceRow.{PieceRow}

abbrev pub pieces_in : ℕ → ℕ
pieces_in octets = div_ceil octets 65536

abbrev pub piece_of : DocumentRow → ℕ → PieceRow
piece_of d k = record { job = d.job; doc = d.doc; piece = k; length = min 65536 (d.octets - k * 65536) }

abbrev pub pieces_of : DocumentRow → List PieceRow
pieces_of d = map (piece_of d) (range_with_len 0 (pieces_in d.octets))

abbrev pub length_in : PieceRow → ℕ
length_in p = p.length

-- ---- of the bytes themselves

abbrev pub piece_at : List ℕ → ℕ → List ℕ
piece_at bytes k = take 65536 (drop (k * 65536) bytes)

abbrev pub cut_up : List ℕ → List (List ℕ)
cut_up bytes = map (piece_at bytes) (range_with_len 0 (pieces_in (length bytes)))
