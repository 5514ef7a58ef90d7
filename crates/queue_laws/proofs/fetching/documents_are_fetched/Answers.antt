use Rattle.queue_laws.proofs.Fetched.{fetched, not_fetched, no_document_fetched, no_job_fetched}
use Rattle.queue_laws.proofs.fetching.documents_are_fetched.Goals as goal

pub returns-clause-fetched : goal.returns-clause-fetched
returns-clause-fetched c w n e before after d there = fetched w n e there before after d

pub returns-clause-elsewhere : goal.returns-clause-elsewhere
returns-clause-elsewhere c w n place e there = not_fetched w n e there place

pub returns-clause-no_document : goal.returns-clause-no_document
returns-clause-no_document c w n place e there = no_document_fetched w n e there place

pub returns-clause-no_job : goal.returns-clause-no_job
returns-clause-no_job c = no_job_fetched
