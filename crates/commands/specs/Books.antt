-- What is made of a store's book, and what a crash leaves of it or of its files.
use Rattle.std.specs.Prelude.{◌≡◌, ℕ, IfErr, IfOk, IfSome, IsTrue, List, Option, Result}
use Rattle.print_server.specs.Connections.{AreConnections, IsAtMostOneMore}
use Rattle.queue_core.specs.World.{World}
use Rattle.queue_store.specs.Crash.{KeepOneOf}
use Rattle.queue_store.specs.Kept.{StandsFor, shown_by}
use Rattle.queue_store.specs.declared.book.TableBook.{TableBook}
use Rattle.queue_tables.specs.Content.{LeavesOneOf}
use Rattle.queue_types.specs.Settings.{SettingValues}
use Rattle.sqlite.specs.State.{State}
use Rattle.sqlite_disk.specs.declared.Disk as disk
use Rattle.sqlite_disk.specs.declared.Files.{Files}
use Rattle.sqlite_trees.specs.declared.store.Store.{Ghosts}
use Rattle.sqlite_wal.specs.Reads.{AreClean}

-- a crash at any moment leaves of the store the queue u, or one that may be left beside it
abbrev pub LeavesBeside : State → World → (World → Type 0) → Type 0
LeavesBeside after u may_be_left = (x : World) × LeavesOneOf u x after × may_be_left x

-- so it is of a store that was open before
abbrev pub CrashLeaves : State → State → World → (World → Type 0) → Type 0
CrashLeaves before after u may_be_left = IsTrue before.is_open → LeavesBeside after u may_be_left

-- whatever a crash leaves of these files keeps the queue u, or one that may be left beside it
abbrev pub KeepBeside : {D : Type 0} → disk.Ghosts D → Files D → World → (World → Type 0) → Type 0
KeepBeside g files u may_be_left = (x : World) × KeepOneOf g files u x × may_be_left x

-- the store of a command that was done was closed, and what holds then of its files where their disk was honest
abbrev pub IfClosed : {D X E : Type 0} → disk.Ghosts D → Result (Result (Files D) X) E → (Files D → Type 0) → Type 0
IfClosed g result P = IfOk result (λ closed. IfOk closed (λ files. AreClean g files.log files.db → P files))

-- a command was refused, and what holds then of its fault and of the files of its store, which was open, where their disk was honest
abbrev pub IfGivenBack : {D A E : Type 0} → disk.Ghosts D → Result A (E × Option (Files D)) → (E → Files D → Type 0) → Type 0
IfGivenBack g result P = IfErr result (λ e. IfSome e.1 (λ files. AreClean g files.log files.db → P e.0 files))

-- a book that was old before, and is new behind
module _ {S : Type 0} (store : Ghosts S) (old new : TableBook S) where
  -- of each queue w that it stood for it stands for a queue u now, and so it is of the two
  abbrev pub Makes : (World → World → Type 0) → Type 0
  Makes so = (w : World) → StandsFor store old w → (u : World) × StandsFor store new u × so w u

  -- moreover, of a store that was open before, a crash at any moment leaves u, or a queue that may be left beside it
  abbrev pub MakesSafely : (World → World → Type 0) → (World → World → World → Type 0) → Type 0
  MakesSafely so may_be_left = Makes (λ w u. so w u × CrashLeaves (shown_by store old) (shown_by store new) u (may_be_left w u))

  -- connections, one after another, over a book that stood for the queue w
  pub record StoreServed (w : World) : Type 0 where
    -- how many requests of each acted
    pub counts : List ℕ
    -- what they made of w
    pub queue : World
    pub are : AreConnections w counts queue
    pub stands : StandsFor store new queue
    -- of a store that was open before, a crash at any moment leaves it, or what the event of one of their requests, which a fault answered, makes of it,
    -- or what one of their sweeps, which met a fault, does
    pub left : CrashLeaves (shown_by store old) (shown_by store new) queue (IsAtMostOneMore w counts queue are)

  -- of each queue that the book stood for: connections, one after another, whose counts are so
  abbrev pub Serves : (List ℕ → Type 0) → Type 0
  Serves so = (w : World) → StandsFor store old w → (served : StoreServed w) × so served.counts

  -- the same, of each queue with these settings
  abbrev pub ServesWith : SettingValues → (List ℕ → Type 0) → Type 0
  ServesWith settings so = (w : World) → StandsFor store old w → settings ≡ w.settings → (served : StoreServed w) × so served.counts
