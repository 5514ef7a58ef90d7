use Rattle.std.proofs.Common.{◌∙◌, refl, inl, length, rules}
use Rattle.std.specs.Prelude.{codes, true}
use Rattle.std.proofs.KnownBytes.{Appends-nil}
use Rattle.queue_core.specs.Crash.{untaken}
use Rattle.ipp_ops.specs.Answer.{bytes_of}
use Rattle.http_head.specs.declared.end.Refusal.TheVariants.{BadRequest}
use Rattle.http_head.specs.declared.target.Target.TheVariants.{Ipp}
use Rattle.http_wire.specs.Responses.{success_response}
use Rattle.http_front.specs.declared.outcome.Tally.{Tally}
use Rattle.http_front.specs.Framed.{of_ipp}
use Rattle.http_front.proofs.FramedLemmas.{framed_sent}
use Rattle.http_front.proofs.ReplyLemmas.{carries_sent, headed_of, ipp_answer, replied_declined, replied_sent, sent_of}
use Rattle.http_front.proofs.reply.reply_ipp.Goals as goal

pub returns-in-Err-clause-replied : goal.returns-in-Err-clause-replied
returns-in-Err-clause-replied g c = λ honest w st set. (
  w,
  rw c.in-Err.ensures.err st,
  (
    replied_declined c.args.context.now w Ipp c.args.content.now c.args.closes BadRequest _ (inl (refl, c.in-Err.ensures.short.0 (search rules))),
    λ v left. (v, rw c.in-Err.ensures.err left, untaken refl refl),
  ),
)

pub returns-in-Ok-clause-replied : goal.returns-in-Ok-clause-replied
returns-in-Ok-clause-replied g c = λ honest w st set.
    let a = c.in-Ok.ensures.crash honest w st in
    let u = a.0 in
    let v = g.W.Write.contents c.args.writer.now in
    let x = g.W.Write.contents c.send.new.writer in
    let bytes = success_response (codes "application/ipp") c.bytes.result.now c.args.closes in
    let tally : Tally = record { acted = true; is_fault = c.is_fault.result } in
    let answer = ipp_answer c.args.context.now w u c.args.content.now (bytes_of c.in-Ok.a) c.bytes.result.now c.is_fault.result
    (headed_of (length c.args.content.now) c.in-Ok.ensures.short.1) (a.1 set) c.is_fault.ensures c.bytes.ensures in
    let sent = sent_of tally v x bytes c.send.result c.send.ensures.ok c.send.ensures.err in (
      u,
      a.2,
      (
        replied_sent c.args.context.now w u Ipp c.args.content.now c.args.closes c.is_fault.result tally v x (codes "application/ipp") c.bytes.result.now c.send.result answer refl refl sent,
        carries_sent (g.B.QueueBook.crash_leaves c.args.book.now) (g.B.QueueBook.crash_leaves c.answer.new.book) _ c.args.context.now w u Ipp c.args.content.now tally v x bytes c.send.result sent (λ is. c.is_fault.ensures ∙ is) a.3,
      ),
    )

pub returns-in-Err-clause-framed : goal.returns-in-Err-clause-framed
returns-in-Err-clause-framed g c = Appends-nil (g.W.Write.contents c.args.writer.now)

pub returns-in-Ok-clause-framed : goal.returns-in-Ok-clause-framed
returns-in-Ok-clause-framed g c =
    let tally : Tally = record { acted = true; is_fault = c.is_fault.result } in
    framed_sent tally c.args.closes (g.W.Write.contents c.args.writer.now) (g.W.Write.contents c.send.new.writer) (codes "application/ipp") c.bytes.result.now c.send.result of_ipp c.send.ensures.ok
