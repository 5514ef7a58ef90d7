use Rattle.queue_laws.proofs.InTurn.{refused_first, refused_then, taken_then}
use Rattle.queue_laws.proofs.accounts.files_are_taken_in_order.Goals as goal

pub returns-clause-front : goal.returns-clause-front
returns-clause-front c = refused_first c.new_grants_add_up.ensures

pub returns-clause-rest : goal.returns-clause-rest
returns-clause-rest c w v now n a p gs hs fault = refused_then c.new_grants_add_up.ensures w now gs hs v a p fault n

pub returns-clause-taken : goal.returns-clause-taken
returns-clause-taken c w v x now a b p q gs hs = taken_then c.new_grants_add_up.ensures w now gs hs v x a p b q
