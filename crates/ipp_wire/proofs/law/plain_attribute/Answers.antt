use Rattle.ipp_wire.proofs.Plain.{plain_attribute}
use Rattle.ipp_wire.proofs.law.plain_attribute.Goals as goal

pub returns : goal.returns
returns c = plain_attribute
