-- A book in the tables of a store in memory.
use Rattle.std.proofs.Common.{refl}
use Rattle.queue_store.specs.Kept.{IsHonest}
use Rattle.queue_store.specs.declared.book.TableBook.{TableBook}
use Rattle.sqlite.specs.Steps.{over_memory}
use Rattle.sqlite_trees.specs.View.{doubt}
use Rattle.sqlite_trees.specs.declared.memory.MemStore.{MemStore}

-- memory gives what was written to it
pub is_honest : (b : TableBook MemStore) → IsHonest over_memory b
unfolding doubt
is_honest b = refl
