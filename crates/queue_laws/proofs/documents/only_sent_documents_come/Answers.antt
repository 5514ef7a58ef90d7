use Rattle.queue_laws.proofs.Coming.{only_sent_come}
use Rattle.queue_laws.proofs.documents.only_sent_documents_come.Goals as goal

pub returns : goal.returns
returns c = only_sent_come
