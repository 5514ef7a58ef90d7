-- What comes of a connection that a book takes, where a refusal hands back its store alone or nothing.
use Rattle.std.specs.Prelude.{◌≡◌, ◌≢◌, ◌⊎◌, IfErr, IfOk, IfSome, IsTrue, Option, Result}
use Rattle.sqlite.specs.Files.{HoldsDatabase, IsCleanLeft, over_files}
use Rattle.sqlite.specs.Held.{Held, state}
use Rattle.sqlite.specs.State.{HasCleanDisk}
use Rattle.sqlite.specs.declared.file.Leftover.{Leftover}
use Rattle.sqlite_disk.specs.declared.Disk as disk
use Rattle.sqlite_store.specs.declared.store.FileStore.{FileStore}
use Rattle.sqlite_trees.specs.Tree.{Trees}
use Rattle.sqlite_trees.specs.View.{IsClean}
use Rattle.sqlite_trees.specs.declared.store.Store.{Ghosts}
use Rattle.sqlite_wal.specs.Recovery.{Image}
use Rattle.queue_types.specs.Settings.{SettingValues}
use Rattle.queue_core.specs.World.{World, empty_queue}
use Rattle.queue_core.specs.declared.book.BookFault.{BookFault}
use Rattle.queue_core.specs.declared.book.BookFault.TheVariants.{Damaged}
use Rattle.queue_load.specs.Queues.{IsQueueIn}
use Rattle.queue_load.specs.Store.{FitsIn}
use Rattle.queue_store.specs.Crash.{IsKept, StillKeeps}
use Rattle.queue_store.specs.Kept.{IsHonest, StandsFor, StandsForOne, shown_by}
use Rattle.queue_store.specs.Older.{TakesQueue}
use Rattle.queue_store.specs.Opened.{FitsFile, IsFaultless, IsKeptIn}
use Rattle.queue_store.specs.declared.book.TableBook.{TableBook}
use Rattle.queue_tables.specs.Content.{IsBookOf}
use Rattle.queue_tables.specs.Tables.{no_schema}

-- the store that is left of a connection: where it is clean the connection was, and a crash leaves no more of it
pub record IsBehind {S : Type 0} (store : Ghosts S) (conn : Held S) (left : S) : Type 0 where
  pub clean : IsClean (store.view left) → HasCleanDisk (state store conn)
  pub left_by : (db : Trees) → store.recovers left db → (state store conn).may_leave db

-- a new book with these settings, whatever a refusal hands back
pub record MakesBook {S E : Type 0} (store : Ghosts S) (conn : Held S) (result : Result (TableBook S) E) (settings : SettingValues) : Type 0 where
  pub clean : IfOk result (λ b. IsHonest store b → HasCleanDisk (state store conn))
  pub blank : IfOk result (λ b. (state store conn).now.schema ≡ no_schema)
  pub stands : IfOk result (λ b. StandsFor store b (empty_queue settings))
  pub live : IfOk result (λ b. IsHonest store b → IsTrue (shown_by store b).is_open)

-- the book that its tables hold
pub record AdoptsBook {S : Type 0} (store : Ghosts S) (conn : Held S) (result : Result (TableBook S) (BookFault × S)) : Type 0 where
  pub stands : FitsIn (state store conn) → IfOk result (λ b. StandsForOne store b)
  pub takes : FitsIn (state store conn) → IfOk result (λ b. IsHonest store b → TakesQueue (state store conn) (shown_by store b) b.settings)
  pub was_clean : IfOk result (λ b. IsHonest store b → HasCleanDisk (state store conn))
  pub clean : IfErr result (λ e. IsClean (store.view e.1) → HasCleanDisk (state store conn))
  pub damaged : FitsIn (state store conn) → IfErr result (λ e. IsClean (store.view e.1) → e.0 ≡ Damaged → (w : World) → ¬ IsQueueIn w (state store conn).now)
  pub left : FitsIn (state store conn) → IfErr result (λ e. IsClean (store.view e.1) → (db : Trees) → store.recovers e.1 db → (state store conn).may_leave db ⊎ ((w : World) × IsQueueIn w (state store conn).now × IsBookOf w db))

-- the book that files keep which held this image, or what is left of them
pub record OpensBook {D : Type 0} {g : disk.Ghosts D} (image : Image) (result : Result (TableBook (FileStore D g)) (BookFault × Option (Leftover D g))) : Type 0 where
  pub stands : FitsFile image → IfOk result (λ b. StandsForOne over_files b)
  pub kept : FitsFile image → IfOk result (λ b. IsHonest over_files b → (w : World) × IsKeptIn image w × StandsFor over_files b w)
  pub again : (w : World) → IsKept image w → IfOk result (λ b. StandsFor over_files b w)
  pub live : (w : World) → IsKept image w → IfOk result (λ b. IsHonest over_files b → IsTrue (shown_by over_files b).is_open)
  pub damaged : (w : World) → IsKept image w → IfErr result (λ e. IsFaultless e.1 → e.0 ≢ Damaged)
  pub unharmed : FitsFile image → (db : Trees) → HoldsDatabase image db → IfErr result (λ e. IfSome e.1 (λ left. IsCleanLeft left → StillKeeps image left db))
