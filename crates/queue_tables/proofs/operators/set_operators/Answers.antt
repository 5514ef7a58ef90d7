use Rattle.std.proofs.Common.{rules}
use Rattle.sqlite.specs.Held.{state}
use Rattle.queue_tables.proofs.Ending.{not_inside}
use Rattle.queue_tables.proofs.Committing.{none_done}
use Rattle.queue_tables.proofs.operators.set_operators.Goals as goal

pub returns-then-not-is_autocommit-clause-commits : goal.returns-then-not-is_autocommit-clause-commits
returns-then-not-is_autocommit-clause-commits g c = none_done (state g.S.Store c.args.conn.now) _ _ (g.met.S.Store.settled c.args.conn.now.store) (λ w sound. sound)

pub returns-clause-inside : goal.returns-clause-inside
returns-clause-inside g c = not_inside c.is_autocommit.result (state g.S.Store c.args.conn.now).in_transaction c.is_autocommit.ensures.value (search rules)
