use Rattle.std.proofs.Common.{◌∙◌, refl}
use Rattle.std.specs.Prelude.{codes, true}
use Rattle.http_wire.specs.Responses.{success_response}
use Rattle.http_head.specs.declared.target.Target.TheVariants.{Report}
use Rattle.http_front.specs.declared.outcome.Tally.{Tally}
use Rattle.http_front.specs.Framed.{of_lines}
use Rattle.http_front.proofs.FramedLemmas.{framed_sent}
use Rattle.http_front.proofs.ReplyLemmas.{carries_sent, replied_sent, report_answer, sent_of}
use Rattle.http_front.proofs.reply.reply_report.Goals as goal

pub returns-clause-replied : goal.returns-clause-replied
returns-clause-replied g c = λ honest w st.
    let a = c.report-answer.ensures.crash honest w st in
    let u = a.0 in
    let v = g.W.Write.contents c.args.writer.now in
    let x = g.W.Write.contents c.send.new.writer in
    let bytes = success_response (codes "text/plain") c.bytes.result.now c.args.closes in
    let tally : Tally = record { acted = true; is_fault = c.is_fault.result } in
    let answer = report_answer c.args.now w u c.args.content.now c.report-answer.result c.bytes.result.now c.is_fault.result a.1 c.is_fault.ensures c.bytes.ensures in
    let sent = sent_of tally v x bytes c.send.result c.send.ensures.ok c.send.ensures.err in (
      u,
      a.2,
      (
        replied_sent c.args.now w u Report c.args.content.now c.args.closes c.is_fault.result tally v x (codes "text/plain") c.bytes.result.now c.send.result answer refl refl sent,
        carries_sent (g.B.QueueBook.crash_leaves c.args.book.now) (g.B.QueueBook.crash_leaves c.report-answer.new.book) _ c.args.now w u Report c.args.content.now tally v x bytes c.send.result sent (λ is. c.is_fault.ensures ∙ is) a.3,
      ),
    )

pub returns-clause-framed : goal.returns-clause-framed
returns-clause-framed g c =
    let tally : Tally = record { acted = true; is_fault = c.is_fault.result } in
    framed_sent tally c.args.closes (g.W.Write.contents c.args.writer.now) (g.W.Write.contents c.send.new.writer) (codes "text/plain") c.bytes.result.now c.send.result of_lines c.send.ensures.ok
