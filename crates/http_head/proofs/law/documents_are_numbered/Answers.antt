use Rattle.http_head.proofs.DocumentLemmas.{document_numbered, numbers_told, path_told}
use Rattle.http_head.proofs.law.documents_are_numbered.Goals as goal

pub returns-clause-numbered : goal.returns-clause-numbered
returns-clause-numbered c = document_numbered

pub returns-clause-only : goal.returns-clause-only
returns-clause-only c = numbers_told

pub returns-clause-alone : goal.returns-clause-alone
returns-clause-alone c = path_told
