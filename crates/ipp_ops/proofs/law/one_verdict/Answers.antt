use Rattle.ipp_ops.proofs.Laws.{one_verdict}
use Rattle.ipp_ops.proofs.law.one_verdict.Goals as goal

pub returns : goal.returns
returns c = one_verdict c.one_spelling.ensures.one_message
