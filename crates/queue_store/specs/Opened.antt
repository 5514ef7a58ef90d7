-- What the files held that a book is opened from or made in, and how their refusal is told.
use Rattle.std.specs.Prelude.{◌≡◌, ◌<◌, ⊤, Option, None, Some, length}
use Rattle.sqlite.specs.declared.error.Error.{Error}
use Rattle.sqlite.specs.declared.error.Error.TheVariants.{SqliteFailure}
use Rattle.sqlite.specs.declared.error.ErrorCode.TheVariants.{OutOfMemory, NotADatabase, DatabaseCorrupt}
use Rattle.sqlite.specs.declared.file.Leftover.{Leftover}
use Rattle.sqlite.specs.Files.{AreFoundIn, HoldsDatabase, IsCleanLeft, faults_left}
use Rattle.sqlite_catalog.specs.Listing.{IsSound}
use Rattle.sqlite_disk.specs.declared.Disk.{Ghosts}
use Rattle.sqlite_schema.specs.declared.schema.Schema.{Schema}
use Rattle.sqlite_trees.specs.Tree.{Trees}
use Rattle.sqlite_wal.specs.Recovery.{Image}
use Rattle.queue_core.specs.World.{World}
use Rattle.queue_core.specs.declared.book.BookFault.{BookFault}
use Rattle.queue_core.specs.declared.book.BookFault.TheVariants.{Memory, Disk, Damaged}
use Rattle.queue_load.specs.Store.{FitsBook}
use Rattle.queue_rows.specs.Versions.{IsOf, Version}
use Rattle.queue_tables.specs.Content.{HasQueueOf}
use Rattle.queue_tables.specs.Tables.{no_schema, schema_of}

-- the tables in the files are those that `create` makes or an older version has, or one is missing
abbrev pub FitsFile : Image → Type 0
FitsFile image = (db : Trees) (schema : Schema) → AreFoundIn image db → IsSound schema db → FitsBook schema

-- the files hold this database and no other, and its tables are those of the schema; an empty file counts as one without tables
pub record HoldsOnly (image : Image) (schema : Schema) (db : Trees) : Type 0 where
  pub found : AreFoundIn image db
  pub tables : IsSound schema db
  pub only : (other : Trees) → HoldsDatabase image other → other ≡ db

-- the file isn't empty, and the database that it holds with its log has the tables of a book, of whatever version, and the rows of this queue
pub record IsKeptIn (image : Image) (w : World) : Type 0 where
  pub present : 0 < length image.db
  pub version : Version
  pub fits : IsOf version w
  pub db : Trees
  pub held : HoldsOnly image (schema_of version) db
  pub rows : HasQueueOf version w db

-- the files hold no tables
abbrev pub HasNoTables : Image → Type 0
HasNoTables image = (db : Trees) × HoldsOnly image no_schema db

-- files that are no database are damaged
abbrev pub open_fault : Error → BookFault
open_fault (SqliteFailure OutOfMemory) = Memory
open_fault (SqliteFailure NotADatabase) = Damaged
open_fault (SqliteFailure DatabaseCorrupt) = Damaged
open_fault _ = Disk

-- what is left of the files tells of no disk that lied or failed; where they were not opened, there is nothing that tells of one
abbrev pub IsFaultless : {D : Type 0} {g : Ghosts D} → Option (Leftover D g) → Type 0
IsFaultless None = ⊤
IsFaultless (Some left) = IsCleanLeft left × (faults_left left ≡ 0)
