use Rattle.std.proofs.Common.{subst}
use Rattle.queue_laws.specs.Documents.{IsFetchedAs}
use Rattle.queue_laws.proofs.Staying.{printed_fetched, sent_fetched}
use Rattle.queue_laws.proofs.documents.sent_documents_are_fetched.Goals as goal

pub returns-clause-printed : goal.returns-clause-printed
returns-clause-printed c w v now caller new d j sound some leads = subst (λ v. IsFetchedAs v j.number 1 d) leads.0 (λ places x. printed_fetched w now caller new d.format d.bytes j places x sound some leads.1)

pub returns-clause-sent : goal.returns-clause-sent
returns-clause-sent c w now n caller e d last there some taken places x = sent_fetched w now n caller e d.format d.bytes last there places x some taken
