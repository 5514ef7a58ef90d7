use Rattle.std.proofs.Common.{refl}
use Rattle.queue_core.specs.Crash.{untaken}
use Rattle.ipp_ops.specs.Answer.{bytes_of}
use Rattle.ipp_ops.proofs.Bytes.{answered, failed, head_told, malformed_told, refused_keeps}
use Rattle.ipp_ops.proofs.answering.answer.Goals as goal

pub returns-in_default-clause-crash : goal.returns-in_default-clause-crash
returns-in_default-clause-crash g c = λ honest w stands. (w, λ set. refl, stands, λ v left. (v, left, untaken refl refl))

pub returns-clause-answered : goal.returns-clause-answered
returns-clause-answered g c = λ honest.
    answered c.args.body.now c.args.settings.now c.args.now (g.B.QueueBook.stands c.args.book.now) (g.B.QueueBook.stands c.answer_headed.new.book) (g.B.QueueBook.crash_leaves c.args.book.now) (g.B.QueueBook.crash_leaves c.answer_headed.new.book)
    (bytes_of c.answer_headed.result) (c.answer_headed.ensures.answered honest)

pub returns-clause-failed : goal.returns-clause-failed
returns-clause-failed g c = λ honest.
    failed c.args.body.now c.args.settings.now c.args.now (g.B.QueueBook.stands c.args.book.now) (g.B.QueueBook.stands c.answer_headed.new.book) (g.B.QueueBook.crash_leaves c.args.book.now) (g.B.QueueBook.crash_leaves c.answer_headed.new.book)
    (bytes_of c.answer_headed.result) (c.answer_headed.ensures.answered honest)

pub returns-clause-refused : goal.returns-clause-refused
returns-clause-refused g c = λ honest.
    refused_keeps c.args.body.now c.args.settings.now c.args.now (g.B.QueueBook.stands c.args.book.now) (g.B.QueueBook.stands c.answer_headed.new.book) (g.B.QueueBook.crash_leaves c.args.book.now) (g.B.QueueBook.crash_leaves c.answer_headed.new.book)
    (bytes_of c.answer_headed.result) (c.answer_headed.ensures.answered honest)

pub returns-clause-crash : goal.returns-clause-crash
returns-clause-crash g c = c.answer_headed.ensures.answered

pub returns-clause-head_refused : goal.returns-clause-head_refused
returns-clause-head_refused g c = head_told c.args.body.now (bytes_of c.answer_headed.result) c.args.settings.now c.args.now c.answer_headed.ensures.checked

pub returns-clause-malformed : goal.returns-clause-malformed
returns-clause-malformed g c = malformed_told c.args.body.now (bytes_of c.answer_headed.result) c.args.settings.now c.args.now c.answer_headed.ensures.checked
