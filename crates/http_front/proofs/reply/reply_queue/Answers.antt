use Rattle.std.proofs.Common.{◌∙◌, ap, refl, inr, false}
use Rattle.std.specs.Prelude.{codes}
use Rattle.std.proofs.KnownBytes.{Appends-nil}
use Rattle.device_lines.specs.Queue.{queue_lines}
use Rattle.http_head.specs.declared.end.Refusal.TheVariants.{ServiceUnavailable}
use Rattle.http_head.specs.declared.target.Target.TheVariants.{Queue}
use Rattle.http_front.specs.Framed.{of_lines}
use Rattle.http_front.proofs.FramedLemmas.{framed_sent}
use Rattle.http_front.proofs.ReplyLemmas.{queue_answer, replied_declined, replied_sent, sent_of}
use Rattle.http_wire.specs.Responses.{success_response}
use Rattle.http_front.proofs.reply.reply_queue.Goals as goal

pub returns-in_default-clause-replied : goal.returns-in_default-clause-replied
returns-in_default-clause-replied g c = λ honest w st now content. replied_declined now w Queue content c.args.closes ServiceUnavailable _ (inr refl)

pub returns-in_default-queue_text-clause-replied : goal.returns-in_default-queue_text-clause-replied
returns-in_default-queue_text-clause-replied g c = λ honest w st now content. replied_declined now w Queue content c.args.closes ServiceUnavailable _ (inr refl)

pub returns-clause-replied : goal.returns-clause-replied
returns-clause-replied g c = λ honest w st now content.
    let jobs = c.in-Ok.ensures.jobs honest w (c.pending.ensures.kept w st) in
    let v = g.W.Write.contents c.args.writer.now in
    let x = g.W.Write.contents c.send.new.writer in
    let bytes = success_response (codes "text/plain") c.as_bytes.result.now c.args.closes in
    replied_sent now w w Queue content c.args.closes false c.empty.result v x (codes "text/plain") c.as_bytes.result.now c.send.result
    (queue_answer now w content c.as_bytes.result.now (c.as_bytes.ensures.value ∙ c.in-Ok-queue_text.ensures ∙ ap queue_lines (c.as_slice.ensures ∙ jobs)))
    c.empty.ensures.acted c.empty.ensures.is_fault (sent_of c.empty.result v x bytes c.send.result c.send.ensures.ok c.send.ensures.err)

pub returns-in_default-clause-framed : goal.returns-in_default-clause-framed
returns-in_default-clause-framed g c = Appends-nil (g.W.Write.contents c.args.writer.now)

pub returns-in_default-queue_text-clause-framed : goal.returns-in_default-queue_text-clause-framed
returns-in_default-queue_text-clause-framed g c = Appends-nil (g.W.Write.contents c.args.writer.now)

pub returns-clause-framed : goal.returns-clause-framed
returns-clause-framed g c =
    framed_sent c.empty.result c.args.closes (g.W.Write.contents c.args.writer.now) (g.W.Write.contents c.send.new.writer) (codes "text/plain") c.as_bytes.result.now c.send.result of_lines c.send.ensures.ok
