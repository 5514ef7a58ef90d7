use Rattle.ipp_wire.proofs.Spelled.{one_message, no_prefix}
use Rattle.ipp_wire.proofs.law.one_spelling.Goals as goal

pub returns-clause-one_message : goal.returns-clause-one_message
returns-clause-one_message c = one_message

pub returns-clause-no_prefix : goal.returns-clause-no_prefix
returns-clause-no_prefix c = no_prefix
