use Rattle.queue_types.specs.Event.{call_of}
use Rattle.ipp_reply.specs.Unsupported.{unsupported_of}
use Rattle.ipp_reply.specs.Wanted.{rows_of}
use Rattle.ipp_ops.proofs.Crashes.{passed_done, refused_done}
use Rattle.ipp_ops.proofs.answering.answer_ask.Goals as goal

pub returns-in-Refused-clause-done : goal.returns-in-Refused-clause-done
returns-in-Refused-clause-done g c = rw c.in-Refused.is (λ honest.
    refused_done c.refusal_bytes.result c.in-Refused.code (unsupported_of c.in-Refused.unsupported) c.args.context
    (g.B.QueueBook.stands c.args.book.now) (g.B.QueueBook.crash_leaves c.args.book.now) c.refusal_bytes.ensures.spelled)

pub returns-in-Call-clause-done : goal.returns-in-Call-clause-done
returns-in-Call-clause-done g c = rw c.in-Call.is (λ honest.
    passed_done c.take_step.result c.in-Call.caller.now (call_of c.in-Call.call) (rows_of c.in-Call.wanted) (unsupported_of c.in-Call.unsupported) c.args.context
    (g.B.QueueBook.stands c.args.book.now) (g.B.QueueBook.stands c.take_step.new.book) (g.B.QueueBook.crash_leaves c.args.book.now) (g.B.QueueBook.crash_leaves c.take_step.new.book) _
    (c.take_step.ensures.reply honest) (c.take_step.ensures.world honest) (c.take_step.ensures.live honest) (λ w v live stands. g.met.B.QueueBook.lasts c.take_step.new.book w v honest live stands)
    c.take_step.ensures.err (c.take_step.ensures.crash honest))
