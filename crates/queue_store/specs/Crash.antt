-- What a crash leaves of the files of a book.
use Rattle.std.specs.Prelude.{◌≡◌, ◌⊎◌, false}
use Rattle.sqlite.specs.Files.{HoldsDatabase, image_of}
use Rattle.sqlite.specs.declared.file.Leftover.{Leftover}
use Rattle.sqlite.specs.declared.file.Leftover.TheVariants as left
use Rattle.sqlite_disk.specs.declared.Disk.{Ghosts}
use Rattle.sqlite_disk.specs.declared.Files.{Files}
use Rattle.sqlite_pool.specs.Stored.{is_summed}
use Rattle.sqlite_store.specs.FileStore.{recovers}
use Rattle.sqlite_store.specs.Unopened.{state_of}
use Rattle.sqlite_trees.specs.Tree.{Trees}
use Rattle.sqlite_wal.specs.Files.{outcomes}
use Rattle.sqlite_wal.specs.Recovery.{Image}
use Rattle.queue_core.specs.World.{World}
use Rattle.queue_tables.specs.Content.{IsBookOf}

-- the files hold this queue, with their log
pub record IsKept (image : Image) (w : World) : Type 0 where
  pub db : Trees
  pub held : ∥ HoldsDatabase image db ∥₁
  pub book : IsBookOf w db

-- so it is as the files read now, and after a crash
pub record KeepTogether {D : Type 0} (g : Ghosts D) (files : Files D) (w : World) : Type 0 where
  pub seen : IsKept (image_of g files) w
  pub left : (image : Image) → outcomes g files.log files.db image → IsKept image w

-- whatever a crash leaves of the files holds this queue or that one
abbrev pub KeepOneOf : {D : Type 0} → Ghosts D → Files D → World → World → Type 0
KeepOneOf g files v w = (image : Image) → outcomes g files.log files.db image → ∥ (IsKept image v ⊎ IsKept image w) ∥₁

-- the pages of the database that the files hold don't end in sums, as those that SQLite's cksumvfs writes
abbrev pub HaveNoSums : Image → Type 0
HaveNoSums image = (db : Trees) (held : HoldsDatabase image db) → is_summed held.0 ≡ false

-- Whatever a crash leaves of what is left of files, which held the first image, holds this database. Of files that were being recovered
-- the kit says so of pages without sums alone, since it doesn't say that pages which end in sums were taken as such.
abbrev pub StillHolds : {D : Type 0} {g : Ghosts D} → Image → Leftover D g → Trees → Type 0
StillHolds {D} {g} first (left.Files files) db = (image : Image) → outcomes g files.log files.db image → HoldsDatabase image db
StillHolds first (left.Unopened files) db = HaveNoSums first → (image : Image) → (state_of files).may_leave image → HoldsDatabase image db
StillHolds first (left.Store store) db = (found : Trees) → recovers store found → found ≡ db

-- The same, or, of a store that was taken to the newest tables and refused then, a database that holds the queue which this one holds.
abbrev pub StillKeeps : {D : Type 0} {g : Ghosts D} → Image → Leftover D g → Trees → Type 0
StillKeeps {D} {g} first (left.Files files) db = StillHolds {g = g} first (left.Files files) db
StillKeeps {D} {g} first (left.Unopened files) db = StillHolds {g = g} first (left.Unopened files) db
StillKeeps first (left.Store store) db = (found : Trees) → recovers store found → (found ≡ db) ⊎ ((w : World) × IsBookOf w db × IsBookOf w found)
