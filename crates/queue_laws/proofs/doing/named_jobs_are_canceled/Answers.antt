use Rattle.queue_laws.proofs.OnNamed.{named_as_one, named_done, named_others_stay, named_refused}
use Rattle.queue_laws.proofs.doing.named_jobs_are_canceled.Goals as goal

pub returns-clause-each : goal.returns-clause-each
returns-clause-each c = λ w now n caller numbers sound may done. named_as_one w now caller numbers sound may done n

pub returns-clause-done : goal.returns-clause-done
returns-clause-done c = named_done

pub returns-clause-others : goal.returns-clause-others
returns-clause-others c = λ w now n caller numbers. named_others_stay w now caller numbers n

pub returns-clause-refused : goal.returns-clause-refused
returns-clause-refused c = λ w now n caller numbers. named_refused w now caller numbers n
