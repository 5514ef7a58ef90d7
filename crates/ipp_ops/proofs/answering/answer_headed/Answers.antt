use Rattle.ipp_wire.specs.Viewed.{message_of}
use Rattle.ipp_ops.specs.Answer.{bare_fault, bytes_of, request}
use Rattle.ipp_ops.specs.Verdict.{refused, verdict}
use Rattle.ipp_ops.proofs.Bytes.{bare_answered, bare_told, done_answered, message_told, request_fails, undone_answered}
use Rattle.ipp_ops.proofs.answering.answer_headed.Goals as goal

-- ---- the message was answered

pub returns-in-Ok-answer_message-clause-answered : goal.returns-in-Ok-answer_message-clause-answered
returns-in-Ok-answer_message-clause-answered g c = λ honest w stands.
    let d = c.in-Ok-answer_message.ensures.done honest w stands in
    done_answered c.args.context.head c.args.body.now (message_of c.in-Ok.view) c.args.context.settings.now c.args.context.now (g.B.QueueBook.stands c.answer_message.new.book) (g.B.QueueBook.crash_leaves c.args.book.now) (g.B.QueueBook.crash_leaves c.answer_message.new.book)
    w d.0 c.in-Ok-answer_message.bytes.items c.requires.head c.in-Ok.ensures.request d.1.0 d.1.1 d.2 d.3

pub returns-in-Ok-answer_message-clause-checked : goal.returns-in-Ok-answer_message-clause-checked
returns-in-Ok-answer_message-clause-checked g c = λ code u on.
    let m = message_of c.in-Ok.view in
    message_told c.args.context.head c.args.body.now c.in-Ok-answer_message.bytes.items c.args.context.settings.now c.args.context.now code u c.requires.head on
    (c.in-Ok-answer_message.ensures.checked code u (c.one_verdict.ensures c.args.body.now (verdict m) (refused code u) (request m c.in-Ok.ensures.request.spelled) on))

pub returns-in-Ok-answer_message-clause-unseen : goal.returns-in-Ok-answer_message-clause-unseen
returns-in-Ok-answer_message-clause-unseen g c = λ code u on.
    let m = message_of c.in-Ok.view in
    c.answer_message.ensures.unseen code u (c.one_verdict.ensures c.args.body.now (verdict m) (refused code u) (request m c.in-Ok.ensures.request.spelled) on)

-- ---- a fault came

pub returns-in-Err-answer_message-clause-answered : goal.returns-in-Err-answer_message-clause-answered
returns-in-Err-answer_message-clause-answered g c = λ honest w stands.
    let m = message_of c.in-Ok.view in
    let d = c.in-Err-answer_message.ensures.done honest w stands in
    undone_answered c.args.body.now m c.args.context.settings.now c.args.context.now (g.B.QueueBook.stands c.answer_message.new.book) (g.B.QueueBook.crash_leaves c.args.book.now) (g.B.QueueBook.crash_leaves c.answer_message.new.book)
    w d.0 (bytes_of c.bare_answer.result) c.in-Ok.ensures.request
    (request_fails c.args.context.head c.args.body.now m (bytes_of c.bare_answer.result) c.requires.head c.in-Ok.ensures.request c.bare_answer.ensures)
    d.1 d.2 d.3

pub returns-in-Err-answer_message-clause-checked : goal.returns-in-Err-answer_message-clause-checked
returns-in-Err-answer_message-clause-checked g c = λ code u on.
    bare_told c.args.body.now (bytes_of c.bare_answer.result) c.args.context.settings.now c.args.context.now code u c.one_verdict.ensures
    (bare_fault (request_fails c.args.context.head c.args.body.now (message_of c.in-Ok.view) (bytes_of c.bare_answer.result) c.requires.head c.in-Ok.ensures.request c.bare_answer.ensures)) on

pub returns-in-Err-answer_message-clause-unseen : goal.returns-in-Err-answer_message-clause-unseen
returns-in-Err-answer_message-clause-unseen g c = λ code u on.
    let m = message_of c.in-Ok.view in
    c.answer_message.ensures.unseen code u (c.one_verdict.ensures c.args.body.now (verdict m) (refused code u) (request m c.in-Ok.ensures.request.spelled) on)

-- ---- no message was read

pub returns-in-Err-clause-answered : goal.returns-in-Err-clause-answered
returns-in-Err-clause-answered g c = λ honest w stands.
    bare_answered c.args.body.now c.args.context.settings.now c.args.context.now (g.B.QueueBook.stands c.args.book.now) (g.B.QueueBook.crash_leaves c.args.book.now) w (bytes_of c.in-Err.answer) c.in-Err.ensures.bare stands

pub returns-in-Err-clause-checked : goal.returns-in-Err-clause-checked
returns-in-Err-clause-checked g c = λ code u on. bare_told c.args.body.now (bytes_of c.in-Err.answer) c.args.context.settings.now c.args.context.now code u c.one_verdict.ensures c.in-Err.ensures.bare on
