use Rattle.std.proofs.Common.{refl}
use Rattle.std.specs.Prelude.{codes}
use Rattle.program_cases.proofs.desk.faulty.FaultyBookQueueBook.send_document.Goals as goal

pub returns-clause-counted : goal.returns-clause-counted
returns-clause-counted g c = (codes "h", refl, c.in_ok-put_whole.ensures.ok)
