use Rattle.queue_laws.proofs.Sheets.{same_sheet, same_pending, same_documents}
use Rattle.queue_laws.proofs.others.own_is_what_is_shown.Goals as goal

pub returns-clause-account : goal.returns-clause-account
returns-clause-account c = same_sheet

pub returns-clause-pending : goal.returns-clause-pending
returns-clause-pending c = same_pending

pub returns-clause-documents : goal.returns-clause-documents
returns-clause-documents c = same_documents
