use Rattle.queue_laws.proofs.OfMine.{mine_free, named_free}
use Rattle.queue_laws.proofs.OfPages.{held_free, released_free, canceled_free, stopped_free, sent_free}
use Rattle.queue_laws.proofs.doing.pages_are_set_aside.Goals as goal

pub returns-clause-held : goal.returns-clause-held
returns-clause-held c = held_free

pub returns-clause-released : goal.returns-clause-released
returns-clause-released c = released_free

pub returns-clause-canceled : goal.returns-clause-canceled
returns-clause-canceled c = canceled_free

pub returns-clause-stopping : goal.returns-clause-stopping
returns-clause-stopping c = stopped_free

pub returns-clause-sent : goal.returns-clause-sent
returns-clause-sent c = sent_free

pub returns-clause-all : goal.returns-clause-all
returns-clause-all c = mine_free

pub returns-clause-named : goal.returns-clause-named
returns-clause-named c w now caller numbers f sound taken account = named_free w now caller f sound account numbers taken
