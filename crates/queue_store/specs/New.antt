-- A new book.
use Rattle.std.specs.Prelude.{◌≡◌, ◌⊎◌, [], ◌∷◌, Bool, IsTrue, List, map, ℕ}
use Rattle.std.specs.List.{list_any}
use Rattle.sqlite.specs.Schema.{Schema}
use Rattle.sqlite.specs.State.{State, HasCleanDisk}
use Rattle.sqlite_catalog.specs.Change.{is_used}
use Rattle.sqlite_trees.specs.Tree.{Trees}
use Rattle.queue_types.specs.Settings.{SettingValues}
use Rattle.queue_core.specs.World.{World, empty_queue}
use Rattle.queue_rows.specs.Rows.{meta_row}
use Rattle.queue_rows.specs.Versions.{policy_row, third_version}
use Rattle.queue_rows.specs.declared.rows.MetaRow.{MetaRow}
use Rattle.queue_rows.specs.declared.rows.PolicyRow.{PolicyRow}
use Rattle.queue_tables.specs.Content.{Content, IsBookOf}
use Rattle.queue_tables.specs.Leaving.{KeepsServing}
use Rattle.queue_tables.specs.Tables.{book_schema}
use Rattle.queue_tables.specs.Values.{meta_values, operator_values, policy_values}

abbrev pub no_content : Content
no_content = record { meta = []; jobs = []; documents = []; pieces = []; accounts = []; grants = []; reports = []; policy = []; operators = [] }

abbrev pub new_content : MetaRow → PolicyRow → List (List ℕ) → Content
new_content m p operators = record no_content { meta = meta_values m ∷ []; policy = policy_values p ∷ []; operators = map operator_values operators }

abbrev pub with_operator_rows : List (List ℕ) → Content → Content
with_operator_rows names c = record c { operators = map operator_values names }

-- the rows of a new book
abbrev pub new_meta : SettingValues → MetaRow
new_meta s = meta_row third_version (empty_queue s)

abbrev pub new_policy : SettingValues → PolicyRow
new_policy s = policy_row s.keep

-- a connection that is open was open, shows what it showed, and has committed nothing. No transaction was begun or ended. Once the disk
-- has lied, it says no more than that, and of the step limit and the faults
pub record KeepsTables (old new : State) : Type 0 where
  pub clean : HasCleanDisk new → HasCleanDisk old
  pub opened : HasCleanDisk new → IsTrue new.is_open → IsTrue old.is_open
  pub same : HasCleanDisk new → IsTrue new.is_open → new.now ≡ old.now
  pub committed : HasCleanDisk new → IsTrue new.is_open → new.committed ≡ old.committed
  pub mode : new.in_transaction ≡ old.in_transaction
  pub serves : KeepsServing old new

-- each database that a crash may leave is one that it might have left before, or holds this queue. It says nothing once the disk has lied
abbrev pub LeavesOldOrNew : World → State → State → Type 0
LeavesOldOrNew w old new = HasCleanDisk new → (db : Trees) → new.may_leave db → old.may_leave db ⊎ IsBookOf w db

-- each holds this queue
abbrev pub LeavesOnly : World → State → Type 0
LeavesOnly w s = HasCleanDisk s → (db : Trees) → s.may_leave db → IsBookOf w db

-- a table, an index or a view has the name of a table of the book
abbrev pub has_any : Schema → Bool
has_any s = list_any (λ table. is_used s table.name) book_schema.tables
