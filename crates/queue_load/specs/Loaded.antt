-- What whole tables that were read are.
use Rattle.std.specs.Prelude.{◌≡◌, ℕ, List, map, take, length, All, IsPermutation, IsSorted}
use Rattle.std.specs.declared.cmp.Ordering.{Ordering}
use Rattle.std.specs.Cmp.Lexicographic.{slice_cmp}
use Rattle.sqlite.specs.Order.{Row, value_cmp}
use Rattle.queue_types.specs.declared.job.Job.{Job}
use Rattle.queue_rows.specs.declared.rows.PieceRow.{PieceRow}
use Rattle.queue_tables.specs.Values.{piece_values, piece_view}
use Rattle.queue_load.specs.Tells.{IsFormedPiece}

-- by the first k columns
abbrev pub key_cmp : ℕ → Row → Row → Ordering
key_cmp k a b = slice_cmp value_cmp (take k a) (take k b)

-- the rows are those of the items, which stand in the order of the first k columns
pub record IsTable {T : Type 0} (values : T → Row) (view : Row → Row) (k : ℕ) (items : List T) (rows : List Row) : Type 0 where
  pub same : IsPermutation (map values items) (map view rows)
  pub sorted : IsSorted (λ a b. key_cmp k (values a) (values b)) items

-- the rows are those of items that have the form
pub record AreFormedRows {T : Type 0} (IsFormed : T → Type 0) (values : T → Row) (view : Row → Row) (rows : List Row) : Type 0 where
  pub items : List T
  pub formed : All IsFormed items
  pub are : IsPermutation (map values items) (map view rows)

-- nothing of the job's documents
abbrev pub IsBare : Job → Type 0
IsBare j = (j.documents ≡ 0) × (j.octets ≡ 0)

-- ---- pieces with their bytes

pub record Piece : Type 0 where
  pub row : PieceRow
  pub bytes : List ℕ

abbrev pub whole_piece : Piece → Row
whole_piece p = piece_values p.row.job p.row.doc p.row.piece p.bytes

abbrev pub row_of : Piece → PieceRow
row_of p = p.row

abbrev pub IsLong : Piece → Type 0
IsLong p = length p.bytes ≡ p.row.length

abbrev pub IsFormedWhole : Piece → Type 0
IsFormedWhole p = IsFormedPiece p.row × IsLong p

-- the rows are those of pieces that have these items, whatever their bytes
pub record ArePieces (items : List PieceRow) (rows : List Row) : Type 0 where
  pub pieces : List Piece
  pub items_are : items ≡ map row_of pieces
  pub long : All IsLong pieces
  pub table : IsTable whole_piece piece_view 3 pieces rows
