-- A queue that the files keep is found again.
use Rattle.std.proofs.Common.{◌≡◌, refl, subst}
use Rattle.std.proofs.Math.Logic.{∥∥₁_elim}
use Rattle.sqlite.specs.Effect.{Database}
use Rattle.sqlite.specs.Start.{FindsIn}
use Rattle.sqlite.specs.State.{State, HasCleanDisk, IsLive, Opens}
use Rattle.sqlite_catalog.specs.Listing.{IsSound}
use Rattle.sqlite_schema.specs.declared.schema.Schema.{Schema}
use Rattle.sqlite_trees.specs.Props.{Trees-set}
use Rattle.sqlite_trees.specs.Tree.{Trees}
use Rattle.sqlite_trees.specs.declared.store.Store.{Ghosts}
use Rattle.sqlite_wal.specs.Recovery.{Image}
use Rattle.queue_core.specs.World.{World}
use Rattle.queue_load.specs.Queues.{IsQueueIn}
use Rattle.queue_load.specs.Store.{FitsIn}
use Rattle.queue_rows.specs.Versions.{Version}
use Rattle.queue_tables.specs.Content.{HasQueueOf}
use Rattle.queue_tables.specs.Tables.{schema_of}
use Rattle.queue_store.proofs.Adopting.{holds_only}
use Rattle.queue_store.specs.Crash.{IsKept}
use Rattle.queue_store.specs.Kept.{IsHonest, Keeps, StandsFor, shown_by}
use Rattle.queue_store.specs.Opened.{IsKeptIn}
use Rattle.queue_store.specs.declared.book.TableBook.{TableBook}

abbrev ListOne : Type 0
ListOne = (n : Version) (schema : Schema) (db : Trees) → IsSound (schema_of n) db → IsSound schema db → schema ≡ schema_of n

-- the files hold one database, whose trees list one schema
pub fits_again : (s : State) (image : Image) → (HasCleanDisk s → Opens s × IsLive s) → (HasCleanDisk s → FindsIn image s) → ListOne → (w : World) → IsKept image w → FitsIn s
fits_again s image opened found one w left clean all =
    let it = holds_only s image opened found clean in
    let same : left.db ≡ s.now.trees = ∥∥₁_elim left.held (Trees-set _ _) (it.only _) in
    (left.book.version, one left.book.version s.now.schema s.now.trees (subst (IsSound (schema_of left.book.version)) same left.book.tables) it.tables)

-- so the queue is in its tables
pub kept_queue : (s : State) (image : Image) → (HasCleanDisk s → Opens s × IsLive s) → (HasCleanDisk s → FindsIn image s) → ListOne → (w : World) → IsKept image w → HasCleanDisk s → IsQueueIn w s.now
kept_queue s image opened found one w left clean =
    let it = holds_only s image opened found clean in
    let n = left.book.version in
    let same : left.db ≡ s.now.trees = ∥∥₁_elim left.held (Trees-set _ _) (it.only _) in
    let schema : s.now.schema ≡ schema_of n = one n s.now.schema s.now.trees (subst (IsSound (schema_of n)) same left.book.tables) it.tables in
    record { version = n; fits = left.book.fits; sound = left.book.sound; schema = schema; rows = subst (HasQueueOf n w) same left.book.rows }

-- and whose tables hold one queue
pub found_again : {S : Type 0} (store : Ghosts S) (b : TableBook S) (image : Image) → ((v w : World) (d : Database) → IsQueueIn v d → IsQueueIn w d → v ≡ w) → ListOne
    → (IsHonest store b → (v : World) × IsKeptIn image v × StandsFor store b v) → (w : World) → IsKept image w → StandsFor store b w
found_again store b image one lists opened w left honest =
    let it = opened honest in
    let n = left.book.version in
    let keeps = it.2 honest in
    let same : left.db ≡ it.1.db = ∥∥₁_elim left.held (Trees-set _ _) (it.1.held.only _) in
    let d : Database = record { schema = schema_of it.1.version; trees = it.1.db } in
    let schema : schema_of it.1.version ≡ schema_of n = lists n (schema_of it.1.version) it.1.db (subst (IsSound (schema_of n)) same left.book.tables) it.1.held.tables in
    let found : IsQueueIn it.0 d = record { version = it.1.version; fits = it.1.fits; sound = keeps.sound; schema = refl; rows = it.1.rows } in
    let was : IsQueueIn w d = record { version = n; fits = left.book.fits; sound = left.book.sound; schema = schema; rows = subst (HasQueueOf n w) same left.book.rows } in
    subst (Keeps (shown_by store b) b.settings) (one it.0 w d found was) keeps
