-- A document on its way out, piece by piece.
use Rattle.std.specs.Prelude.{◌≡◌, ◌≢◌, ◌⊎◌, ℕ, List, [], ◌∷◌, ◌++◌, flat_map, length, Option, codes}
use Rattle.std.specs.Io.KnownBytes.{Appends}
use Rattle.sqlite.specs.declared.types.Value.{Value}
use Rattle.sqlite.specs.declared.types.Value.TheVariants.{Null, Int, Real, Text as Words, Blob}
use Rattle.sqlite.specs.Order.{Row, column}
use Rattle.sqlite.specs.State.{State, Begins}
pub use Rattle.queue_tables.specs.Reads.{Answers, HasBook, LeavesRows}

abbrev pub blob_bytes : Value → List ℕ
blob_bytes (Blob b) = b
blob_bytes Null = []
blob_bytes (Int n) = []
blob_bytes (Real x) = []
blob_bytes (Words t) = []

-- the bytes of a row that shows a piece
abbrev pub piece_bytes : Row → List ℕ
piece_bytes r = blob_bytes (column r 0)

abbrev pub bytes_of : List Row → List ℕ
bytes_of rows = flat_map piece_bytes rows

abbrev pub pieces_select : List ℕ
pieces_select = codes "SELECT bytes FROM pieces WHERE job = ?1 AND doc = ?2 ORDER BY piece"

-- n bytes were written
abbrev pub HasWritten : Option (List ℕ) → Option (List ℕ) → ℕ → Type 0
HasWritten before after n = (bytes : List ℕ) × (length bytes ≡ n) × Appends before after bytes

-- all rows of the answer were written
pub record HasSent (params : Row) (s : State) (before after : Option (List ℕ)) (n : ℕ) : Type 0 where
  pub rows : List Row
  pub all : Answers pieces_select params s rows
  pub appends : Appends before after (bytes_of rows)
  pub count : n ≡ length (bytes_of rows)

-- a front of the answer's bytes was written
pub record HasSentFront (params : Row) (s : State) (before after : Option (List ℕ)) (n : ℕ) : Type 0 where
  pub bytes : List ℕ
  pub appends : Appends before after bytes
  pub count : n ≡ length bytes
  pub front : (bytes ≡ []) ⊎ ((rows : List Row) × Begins pieces_select params s rows × (rest : List ℕ) × (bytes_of rows ≡ bytes ++ rest))

-- no bytes stand in the row's first column
abbrev pub ShowsNoBlob : Row → Type 0
ShowsNoBlob r = (b : List ℕ) → column r 0 ≢ Blob b

-- such a row is in the answer
pub record FindsNoBlob (params : Row) (s : State) : Type 0 where
  pub before : List Row
  pub row : Row
  pub there : Begins pieces_select params s (before ++ row ∷ [])
  pub bare : ShowsNoBlob row
