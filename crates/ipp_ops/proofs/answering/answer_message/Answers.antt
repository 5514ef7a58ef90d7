use Rattle.ipp_wire.specs.Viewed.{message_of}
use Rattle.ipp_ops.specs.Verdict.{verdict}
use Rattle.ipp_ops.proofs.Crashes.{untouched}
use Rattle.ipp_ops.proofs.answering.answer_message.Goals as goal

pub returns-in_err-ask-clause-done : goal.returns-in_err-ask-clause-done
returns-in_err-ask-clause-done g c = λ honest.
    untouched c.from_residual.result (verdict (message_of c.args.view)) c.args.context (g.B.QueueBook.stands c.args.book.now) (g.B.QueueBook.crash_leaves c.args.book.now) c.from_residual.ensures.0

pub returns-clause-done : goal.returns-clause-done
returns-clause-done g c = rw (← c.in_ok-ask.ensures.verdict) c.answer_ask.ensures.done
