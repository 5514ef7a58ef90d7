use Rattle.ipp_ops.proofs.Validations.{answer_keeps_world, answered_alike, verdicts_alike}
use Rattle.ipp_ops.proofs.law.validations_are_answered_as_prints.Goals as goal

pub returns-clause-asked : goal.returns-clause-asked
returns-clause-asked c = verdicts_alike c.one_spelling.ensures.one_message

pub returns-clause-answered : goal.returns-clause-answered
returns-clause-answered c = answered_alike c.one_spelling.ensures.one_message

pub returns-clause-kept : goal.returns-clause-kept
returns-clause-kept c = answer_keeps_world c.one_spelling.ensures.one_message
