use Rattle.queue_laws.proofs.Filed.{grants_stay, file_granted, file_free, file_counted}
use Rattle.queue_laws.proofs.accounts.grants_count_once.Goals as goal

pub returns-clause-stay : goal.returns-clause-stay
returns-clause-stay c = grants_stay

pub returns-clause-granted : goal.returns-clause-granted
returns-clause-granted c = file_granted

pub returns-clause-free : goal.returns-clause-free
returns-clause-free c = file_free c.new_grants_add_up.ensures

pub returns-clause-counted : goal.returns-clause-counted
returns-clause-counted c = file_counted
