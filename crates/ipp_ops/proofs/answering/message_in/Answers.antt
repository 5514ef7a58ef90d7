use Rattle.ipp_ops.specs.Answer.{bytes_of}
use Rattle.ipp_ops.proofs.Bytes.{head_refused, malformed_refused}
use Rattle.ipp_ops.proofs.answering.message_in.Goals as goal

pub returns-in-Some-clause-bare : goal.returns-in-Some-clause-bare
returns-in-Some-clause-bare c = head_refused c.args.head c.args.body.now c.in-Some.code (bytes_of c.bare_answer.result) c.requires.head c.in-Some.ensures c.bare_answer.ensures

pub returns-in-Err-Malformed-clause-bare : goal.returns-in-Err-Malformed-clause-bare
returns-in-Err-Malformed-clause-bare c =
    malformed_refused c.args.head c.args.body.now (bytes_of c.bare_answer-in-Err-Malformed.result) c.requires.head c.in_default.ensures (rw c.in-Err-Malformed.field-0-is at c.in-Err-Malformed.ensures.fault).1 c.bare_answer-in-Err-Malformed.ensures
