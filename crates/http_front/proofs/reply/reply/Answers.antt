use Rattle.std.proofs.Common.{refl}
use Rattle.queue_core.specs.Crash.{untaken}
use Rattle.http_head.specs.declared.target.Target.TheVariants.{Ipp, Report, Queue, Document}
use Rattle.http_front.proofs.ReplyLemmas.{retarget}
use Rattle.http_front.proofs.reply.reply.Goals as goal

pub returns-in-Ipp-clause-replied : goal.returns-in-Ipp-clause-replied
returns-in-Ipp-clause-replied g c = λ honest w st set.
    let r = c.reply_ipp.ensures.replied honest w st set in
    (r.0, r.1, retarget (g.B.QueueBook.crash_leaves c.args.book.now) (g.B.QueueBook.crash_leaves c.reply_ipp.new.book) c.args.context.now w r.0 c.args.request.target Ipp c.args.request.content.now c.args.request.closes _ _ c.reply_ipp.result c.in-Ipp.is r.2)

pub returns-in-Report-clause-replied : goal.returns-in-Report-clause-replied
returns-in-Report-clause-replied g c = λ honest w st set.
    let r = c.reply_report.ensures.replied honest w st in
    (r.0, r.1, retarget (g.B.QueueBook.crash_leaves c.args.book.now) (g.B.QueueBook.crash_leaves c.reply_report.new.book) c.args.context.now w r.0 c.args.request.target Report c.args.request.content.now c.args.request.closes _ _ c.reply_report.result c.in-Report.is r.2)

pub returns-in-Queue-clause-replied : goal.returns-in-Queue-clause-replied
returns-in-Queue-clause-replied g c = λ honest w st set. (
  w,
  c.reply_queue.ensures.kept w st,
  retarget (g.B.QueueBook.crash_leaves c.args.book.now) (g.B.QueueBook.crash_leaves c.reply_queue.new.book) c.args.context.now w w c.args.request.target Queue c.args.request.content.now c.args.request.closes _ _ c.reply_queue.result c.in-Queue.is
      (c.reply_queue.ensures.replied honest w st c.args.context.now c.args.request.content.now, λ v left. (v, c.reply_queue.ensures.left honest w v left, untaken refl refl)),
)

pub returns-in-Document-clause-replied : goal.returns-in-Document-clause-replied
returns-in-Document-clause-replied g c = λ honest w st set. (
  w,
  c.reply_document.ensures.kept w st,
  retarget (g.B.QueueBook.crash_leaves c.args.book.now) (g.B.QueueBook.crash_leaves c.reply_document.new.book) c.args.context.now w w c.args.request.target (Document c.in-Document.numbers) c.args.request.content.now c.args.request.closes _ _ c.reply_document.result c.in-Document.is
      (c.reply_document.ensures.replied honest w st c.args.context.now c.args.request.content.now, λ v left. (v, c.reply_document.ensures.left honest w v left, untaken refl refl)),
)
