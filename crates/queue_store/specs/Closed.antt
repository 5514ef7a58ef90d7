-- What a close leaves of the files of a book.
use Rattle.sqlite.specs.Closing.{HoldsAlone}
use Rattle.sqlite.specs.Files.{image_of}
use Rattle.sqlite.specs.State.{State}
use Rattle.sqlite_disk.specs.declared.Disk.{Ghosts}
use Rattle.sqlite_disk.specs.declared.Files.{Files}
use Rattle.sqlite_store.specs.FileStore.{recovers}
use Rattle.sqlite_store.specs.declared.store.FileStore.{FileStore}
use Rattle.sqlite_trees.specs.Tree.{Trees}
use Rattle.sqlite_wal.specs.Files.{outcomes}
use Rattle.sqlite_wal.specs.Recovery.{Image}
use Rattle.queue_core.specs.World.{World}
use Rattle.queue_tables.specs.Content.{IsBookOf}

-- the files hold this queue, and the database file holds it without its log too
pub record IsKeptAlone (image : Image) (w : World) : Type 0 where
  pub db : Trees
  pub alone : HoldsAlone image db
  pub book : IsBookOf w db

-- so it is as the files read now, and after a crash
pub record KeepAlone {D : Type 0} (g : Ghosts D) (files : Files D) (w : World) : Type 0 where
  pub seen : IsKeptAlone (image_of g files) w
  pub left : (image : Image) → outcomes g files.log files.db image → IsKeptAlone image w

-- a crash leaves no database of the store but what it might have left of the connection
abbrev pub LeavesNoMore : {D : Type 0} {g : Ghosts D} → State → FileStore D g → Type 0
LeavesNoMore s store = (db : Trees) → recovers store db → s.may_leave db
