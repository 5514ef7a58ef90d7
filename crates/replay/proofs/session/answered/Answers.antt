use Rattle.replay.proofs.SessionLemmas.{headed, is_reply}
use Rattle.replay.proofs.session.answered.Goals as goal

pub returns-clause-headed : goal.returns-clause-headed
returns-clause-headed g c = headed c.args.message.now c.answer.result c.answer.ensures.short.1

pub returns-clause-reply : goal.returns-clause-reply
returns-clause-reply g c = λ h. is_reply (g.B.QueueBook.stands c.args.book.now) (g.B.QueueBook.stands c.answer.new.book) c.args.context.now c.args.context.settings.now c.args.message.now c.answer.result
    (λ w stands set. let a = c.answer.ensures.crash h w stands in (a.0, a.1 set, a.2))
