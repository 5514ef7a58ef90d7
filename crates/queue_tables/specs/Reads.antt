-- What a read of rows shows and leaves.
use Rattle.std.specs.Prelude.{◌≡◌, ◌⊎◌, ℕ, List, None}
use Rattle.sqlite.specs.Order.{Row}
use Rattle.sqlite.specs.State.{State, HasCleanDisk, IsUnchanged, IsRolledBack, IsStatement}
use Rattle.sqlite.specs.Effect.{Database, Reads}
use Rattle.sqlite.specs.Listing.{reads_listing, IsSourceOf}
use Rattle.sqlite.specs.Clock.{timed}
use Rattle.sqlite_resolve.specs.declared.compiled.Compiled.{Compiled}
use Rattle.queue_tables.specs.Tables.{book_schema}

-- as it was, or back at the last commit
abbrev pub LeavesRows : State → State → Type 0
LeavesRows old new = IsUnchanged old new ⊎ IsRolledBack old new

-- the tables are as `create` makes them, as far as the disk was honest
abbrev pub HasBook : State → Type 0
HasBook s = HasCleanDisk s → s.now.schema ≡ book_schema

-- these are all rows of the answer
abbrev pub Answers : List ℕ → Row → State → List Row → Type 0
Answers sql params s rows =
    (c : Compiled) × (it : IsStatement s sql params c) × (c.returning ≡ None) × (db : Database) × IsSourceOf (reads_listing s.now.schema sql) s.now db × Reads c.command db (timed params c.formats it.now) rows
