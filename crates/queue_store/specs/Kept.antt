-- What a book keeps, as its callers see it.
use Rattle.std.specs.Prelude.{◌≡◌, false, None, IsTrue}
use Rattle.sqlite.specs.Held.{Held, state}
use Rattle.sqlite.specs.State.{State, HasCleanDisk}
use Rattle.sqlite_trees.specs.declared.store.Store.{Ghosts}
use Rattle.queue_types.specs.Settings.{SettingValues}
use Rattle.queue_core.specs.Sound.{IsSound}
use Rattle.queue_core.specs.World.{World}
use Rattle.queue_tables.specs.Content.{Holds, content_of}
use Rattle.queue_store.specs.declared.book.TableBook.{TableBook}

-- a sound world of these settings, which the tables hold as long as the connection is open, and what they hold is committed. No
-- transaction is under way, in which each call would be refused, nor is there a limit to the steps of a query
pub record Keeps (s : State) (settings : SettingValues) (w : World) : Type 0 where
  pub sound : IsSound w
  pub settings_are : settings ≡ w.settings
  pub holds : IsTrue s.is_open → Holds (content_of w) s
  pub settled : IsTrue s.is_open → s.now ≡ s.committed
  pub outside : IsTrue s.is_open → s.in_transaction ≡ false
  pub unlimited : IsTrue s.is_open → s.step_limit ≡ None

-- a connection whose step limit was lifted
abbrev pub without_limit : State → State
without_limit s = record s { step_limit = None }

-- the tables are open, and hold a sound world of these settings
pub record HasWorld (s : State) (settings : SettingValues) : Type 0 where
  pub world : World
  pub keeps : Keeps s settings world
  pub live : IsTrue s.is_open

-- ---- a book

abbrev pub connection_of : {S : Type 0} → TableBook S → Held S
connection_of b = b.conn

abbrev pub shown_by : {S : Type 0} → Ghosts S → TableBook S → State
shown_by store b = state store (connection_of b)

-- what is read of its tables is what was written to them
abbrev pub IsHonest : {S : Type 0} → Ghosts S → TableBook S → Type 0
IsHonest store b = HasCleanDisk (shown_by store b)

-- as far as can be known, it holds this world
abbrev pub StandsFor : {S : Type 0} → Ghosts S → TableBook S → World → Type 0
StandsFor store b w = IsHonest store b → Keeps (shown_by store b) b.settings w

-- as far as can be known, it holds a sound world
abbrev pub StandsForOne : {S : Type 0} → Ghosts S → TableBook S → Type 0
StandsForOne store b = IsHonest store b → HasWorld (shown_by store b) b.settings
