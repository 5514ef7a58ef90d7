use Rattle.std.specs.Prelude.{Some}
use Rattle.queue_types.specs.Event.{ask}
use Rattle.ipp_ops.proofs.Callers.{asked_named}
use Rattle.ipp_ops.proofs.law.callers_are_named_first.Goals as goal

pub returns : goal.returns
returns c = λ b caller call bytes asks. asked_named c.names_with_languages.ensures.spelled b (Some (ask caller call)) bytes asks
