use Rattle.std.proofs.Common.{rules}
use Rattle.queue_core.specs.World.{is_one_of}
use Rattle.list_book.proofs.scene.is_own_of.Goals as goal

pub returns-then-eq : goal.returns-then-eq
unfolding is_one_of
returns-then-eq c = search rules
