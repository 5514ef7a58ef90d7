use Rattle.std.proofs.Common.{◌≡◌, ◌≤◌, ℕ, List, length}
use Rattle.std.specs.Prelude.{fold}
use Rattle.std.specs.HashMap.{spare}
use Rattle.std.specs.Vec.Iter.{into_iter_items}
use Rattle.queue_core.specs.World.{put_free}
use Rattle.list_book.specs.Tables.{free_map, total_of}
use Rattle.list_book.proofs.accounts.put_free_rows.Given as goal

abbrev pub invariant-loop-row : goal.invariant-loop-row
invariant-loop-row l =
    (goal.iterator-loop-row).can_next l.row-iterator ×
    (goal.iterator-loop-row).is_finite l.row-iterator ×
    (fold put_free (free_map l.accounts.entries) (into_iter_items l.row-iterator) ≡ fold put_free (free_map l.initial.accounts.entries) (into_iter_items l.initial.row-iterator)) ×
    ((a : List ℕ) → total_of l.accounts.entries a ≡ total_of l.initial.accounts.entries a) ×
    (length (into_iter_items l.row-iterator) ≤ spare l.accounts)
