-- The law of a book that is open. It stands here since no `ghost use` and no file of specs may name this crate's proofs.
use Rattle.std.proofs.Common.{◌≡◌, inl, IsTrue, sym, subst}
use Rattle.sqlite.specs.Effect.{Database}
use Rattle.sqlite.specs.State.{State, HasCleanDisk}
use Rattle.sqlite_trees.specs.Tree.{Trees}
use Rattle.queue_types.specs.Settings.{SettingValues}
use Rattle.queue_core.specs.World.{World}
use Rattle.queue_tables.proofs.Crash.{book_of}
use Rattle.queue_tables.specs.Content.{IsBookOf, LeavesOneOf}
use Rattle.queue_store.specs.Kept.{Keeps}

-- the law of a store: while it is open, a crash leaves the last commit
abbrev pub LeavesLast : State → Type 0
LeavesLast s = (db : Trees) → IsTrue s.is_open → s.may_leave db → db ≡ s.committed.trees

module _ {s : State} {settings : SettingValues} {w : World} where
  -- what the tables keep while they are open is committed
  pub committed_book : Keeps s settings w → IsTrue s.is_open → IsBookOf w s.committed.trees
  committed_book kept is_open = subst (λ (d : Database). IsBookOf w d.trees) (kept.settled is_open) (book_of w s kept.sound (kept.holds is_open))

  -- and a crash leaves nothing else
  pub open_leaves : (HasCleanDisk s → Keeps s settings w) → LeavesLast s → HasCleanDisk s → IsTrue s.is_open → (db : Trees) → s.may_leave db → IsBookOf w db
  open_leaves stands last honest live db may = subst (IsBookOf w) (sym (last db live may)) (committed_book (stands honest) live)

  -- so it leaves this queue, or any other
  pub open_lasts : (v : World) → (HasCleanDisk s → Keeps s settings w) → LeavesLast s → HasCleanDisk s → IsTrue s.is_open → LeavesOneOf w v s
  open_lasts v stands last honest live db may = inl (open_leaves stands last honest live db may)
