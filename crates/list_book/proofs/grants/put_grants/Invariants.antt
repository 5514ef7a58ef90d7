use Rattle.std.proofs.Common.{◌≡◌, ◌≤◌, ◌<◌, ◌+◌, ◌^◌, ℕ, List, length}
use Rattle.std.specs.Prelude.{fold}
use Rattle.std.specs.HashMap.{spare}
use Rattle.std.specs.Vec.Iter.{into_iter_items}
use Rattle.queue_core.specs.Grants.{pages_to}
use Rattle.queue_core.specs.World.{put_grant}
use Rattle.list_book.specs.Tables.{HaveAccounts, free_map, grants_map, total_of}
use Rattle.list_book.proofs.grants.put_grants.Given as goal

abbrev pub invariant-loop-row : goal.invariant-loop-row
invariant-loop-row l =
    (goal.iterator-loop-row).can_next l.row-iterator ×
    (goal.iterator-loop-row).is_finite l.row-iterator ×
    (fold put_grant (grants_map l.grants.entries) (into_iter_items l.row-iterator) ≡ fold put_grant (grants_map l.initial.grants.entries) (into_iter_items l.initial.row-iterator)) ×
    (free_map l.accounts.entries ≡ free_map l.initial.accounts.entries) ×
    ((a : List ℕ) → total_of l.accounts.entries a + pages_to a (into_iter_items l.row-iterator) ≡ total_of l.initial.accounts.entries a + pages_to a (into_iter_items l.initial.row-iterator)) ×
    (length (into_iter_items l.row-iterator) ≤ spare l.grants) ×
    HaveAccounts (free_map l.accounts.entries) (into_iter_items l.row-iterator) ×
    ((a : List ℕ) → total_of l.accounts.entries a + pages_to a (into_iter_items l.row-iterator) < 2 ^ 32)
