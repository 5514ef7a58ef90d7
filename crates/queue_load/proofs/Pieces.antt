-- The table of pieces, of whose bytes only the length is kept.
use Rattle.std.proofs.Common.{◌≡◌, List, [], ◌∷◌, map, length, All, refl, ap, arith}
use Rattle.std.proofs.lemmas.List.Elements.{All-cons, All-tail}
use Rattle.sqlite.specs.Order.{Row}
use Rattle.sqlite.specs.State.{State}
use Rattle.queue_rows.specs.declared.rows.PieceRow.{PieceRow}
use Rattle.queue_rows.specs.Versions.{Version}
use Rattle.queue_tables.specs.Tables.{schema_of}
use Rattle.queue_load.specs.Loaded.{ArePieces, IsLong, Piece, row_of, whole_piece}
use Rattle.queue_load.specs.Reads.{HasRead, Tell}
use Rattle.queue_load.specs.Tells.{TellsPiece}
use Rattle.queue_load.proofs.Texts.{pieces_query, pieces_is, pieces_reads}
use Rattle.queue_load.proofs.Whole.{table_read, wide_rows}

-- a piece with its bytes tells of the row
abbrev TellsWhole : Piece → Row → Type 0
TellsWhole p r = length r ≡ 4 → r ≡ whole_piece p

pub record AreWhole (items : List PieceRow) (rows : List Row) : Type 0 where
  pub pieces : List Piece
  pub items_are : items ≡ map row_of pieces
  pub long : All IsLong pieces
  pub told : Tell TellsWhole pieces rows

wholes : (ps : List PieceRow) (rs : List Row) → Tell TellsPiece ps rs → All (λ r. length r ≡ 4) rs → AreWhole ps rs
wholes [] [] told wide = record { pieces = []; items_are = refl; long = λ i d low. absurd (omega (arith, low)); told = tt }
wholes (p ∷ ps) (r ∷ rs) told wide =
    let it = told.0 (wide 0 r (omega arith)) in
    let more = wholes ps rs told.1 (All-tail (λ r. length r ≡ 4) r rs wide) in
    let one : Piece = record { row = p; bytes = it.bytes } in
    record { pieces = one ∷ more.pieces; items_are = ap (λ (qs : List PieceRow). p ∷ qs) more.items_are; long = All-cons IsLong one more.pieces it.long more.long; told = (λ len. it.is, more.told) }
wholes _ _ told wide = absurd told

pub pieces_read : (n : Version) (s : State) (items : List PieceRow) → s.now.schema ≡ schema_of n → HasRead TellsPiece pieces_query.sql s items → ArePieces items (s.now.trees 4)
pieces_read n s items has h =
    let it = wholes items h.rows h.told (wide_rows pieces_query pieces_is (schema_of n) (pieces_reads n) s h.rows has h.all) in
    record {
      pieces = it.pieces;
      items_are = it.items_are;
      long = it.long;
      table = table_read pieces_query pieces_is (schema_of n) (pieces_reads n) TellsWhole whole_piece (λ t r told. told) (λ a b. refl) s it.pieces has (record { rows = h.rows; all = h.all; told = it.told });
    }
