-- Files that were closed, and files that were let go.
use Rattle.std.proofs.Common.{◌≡◌, ◌⊎◌, inl, inr, IsTrue, subst, ◌∙◌}
use Rattle.std.proofs.Math.Logic.{∥∥₁_map}
use Rattle.sqlite.proofs.Theorems.{opens_again}
use Rattle.sqlite.specs.Closing.{IsCopied}
use Rattle.sqlite.specs.Files.{HoldsDatabase, over_files}
use Rattle.sqlite.specs.Held.{AreDatabases}
use Rattle.sqlite_disk.specs.declared.Disk as disk
use Rattle.sqlite_disk.specs.declared.Files.{Files}
use Rattle.sqlite_pool.proofs.StateLemmas.{clean_is, may_leave_is}
use Rattle.sqlite_store.specs.FileStore.{files, recovers, view}
use Rattle.sqlite_store.specs.Laws.{settled_at}
use Rattle.sqlite_store.specs.declared.store.FileStore.{FileStore}
use Rattle.sqlite_trees.proofs.Doubt.{no_doubt}
use Rattle.sqlite_trees.specs.Tree.{Trees}
use Rattle.sqlite_trees.specs.View.{IsClean}
use Rattle.sqlite_wal.proofs.LogLemmas.{SeenMayStay}
use Rattle.sqlite_wal.specs.Files.{outcomes}
use Rattle.sqlite_wal.specs.Reads.{AreClean}
use Rattle.sqlite_wal.specs.Recovery.{Image}
use Rattle.queue_core.specs.World.{World}
use Rattle.queue_tables.specs.Content.{IsBookOf, LeavesOneOf}
use Rattle.queue_store.specs.Closed.{KeepAlone}
use Rattle.queue_store.specs.Crash.{IsKept, KeepOneOf, KeepTogether}
use Rattle.queue_store.specs.Kept.{IsHonest, StandsFor, connection_of, shown_by}
use Rattle.queue_store.specs.Laws.{committed_book}
use Rattle.queue_store.specs.declared.book.TableBook.{TableBook}

module _ {D : Type 0} {g : disk.Ghosts D} (b : TableBook (FileStore D g)) (given : Files D) where
  pub copied_queue : IsCopied (connection_of b) given → (w : World) → StandsFor over_files b w → KeepAlone g given w
  copied_queue copied w stands =
      let book = committed_book (stands copied.was_clean) copied.was_open in
      let db = (shown_by over_files b).committed.trees in
      record {
        seen = record { db = db; alone = copied.seen; book = book };
        left = λ image may. record { db = db; alone = copied.left image may; book = book };
      }

  -- whatever a crash leaves of the files holds a database that it may leave of the book
  module _ (held : (image : Image) → outcomes g given.log given.db image → ∥ ((db : Trees) × (shown_by over_files b).may_leave db × HoldsDatabase image db) ∥₁) where
    pub left_queue : SeenMayStay g → IsHonest over_files b → (w : World) → StandsFor over_files b w → IsTrue (shown_by over_files b).is_open → KeepTogether g given w
    left_queue stays honest w stands is_open =
        let db = (shown_by over_files b).committed.trees in
        let each : (image : Image) → outcomes g given.log given.db image → IsKept image w = λ image may. record {
          db = db;
          held = ∥∥₁_map (held image may) (λ found. subst (HoldsDatabase image) (settled_at (connection_of b).store stays found.0 is_open found.1) found.2);
          book = committed_book (stands honest) is_open;
        } in
        record { seen = each _ (stays _, stays _); left = each }

    pub left_one_of : (v w : World) → LeavesOneOf v w (shown_by over_files b) → KeepOneOf g given v w
    left_one_of v w leaves image may = ∥∥₁_map (held image may) (λ found. kept found (leaves found.0 found.1))
      where
        kept : (found : (db : Trees) × (shown_by over_files b).may_leave db × HoldsDatabase image db) → IsBookOf v found.0 ⊎ IsBookOf w found.0 → IsKept image v ⊎ IsKept image w
        kept found (inl book) = inl (record { db = found.0; held = ∣ found.2 ∣₁; book = book })
        kept found (inr book) = inr (record { db = found.0; held = ∣ found.2 ∣₁; book = book })

-- ---- the files of a store

module _ {D : Type 0} {g : disk.Ghosts D} (it : FileStore D g) (log db : D) (parts : (log, db) ≡ files it) (clean : AreClean g log db) where
  still_clean : AreClean g (files it).0 (files it).1
  still_clean = subst (λ p. AreClean g p.0 p.1) parts clean

  pub clean_store : IsClean (view it)
  clean_store = no_doubt _ (clean_is it.pool ∙ still_clean)

  -- whatever a crash leaves of them holds a database that it may leave of the store
  pub image_holds : IsTrue (view it).is_numbered → AreDatabases (recovers it) → (image : Image) → outcomes g log db image → ∥ ((left : Trees) × recovers it left × HoldsDatabase image left) ∥₁
  image_holds numbered sound image may =
      opens_again it numbered sound image (may_leave_is it.pool image still_clean (subst (λ p. outcomes g p.0 p.1 image) parts may))
