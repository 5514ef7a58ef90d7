use Rattle.queue_laws.proofs.AlikePlaces.{prints_alike, refused_alike, undrawn_alike}
use Rattle.queue_laws.proofs.others.others_requests_are_alike.Goals as goal

pub returns-clause-printed : goal.returns-clause-printed
returns-clause-printed c = prints_alike

pub returns-clause-refused : goal.returns-clause-refused
returns-clause-refused c = refused_alike c.refusals_change_nothing.ensures

pub returns-clause-undrawn : goal.returns-clause-undrawn
returns-clause-undrawn c = undrawn_alike
