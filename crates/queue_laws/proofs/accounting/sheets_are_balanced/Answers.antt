use Rattle.queue_laws.proofs.Accounted.{sheet_there, sheet_amounts, sheet_balance, sheet_reserved, sheet_printed, sheet_each, sheet_in_order}
use Rattle.queue_laws.proofs.accounting.sheets_are_balanced.Goals as goal

pub returns-clause-there : goal.returns-clause-there
returns-clause-there c = sheet_there

pub returns-clause-amounts : goal.returns-clause-amounts
returns-clause-amounts c = sheet_amounts

pub returns-clause-balance : goal.returns-clause-balance
returns-clause-balance c = sheet_balance

pub returns-clause-reserved : goal.returns-clause-reserved
returns-clause-reserved c = sheet_reserved

pub returns-clause-printed : goal.returns-clause-printed
returns-clause-printed c = sheet_printed

pub returns-clause-each : goal.returns-clause-each
returns-clause-each c = sheet_each

pub returns-clause-in_order : goal.returns-clause-in_order
returns-clause-in_order c = sheet_in_order
