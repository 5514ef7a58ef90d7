use Rattle.std.proofs.Common.{◌≡◌, refl, sym, inl, inr, rules, length, subst, List, ℕ, None, Some, false}
use Rattle.std.specs.Io.KnownBytes.{Appends}
use Rattle.std.proofs.KnownBytes.{Appends-nil, Appends-trans}
use Rattle.queue_types.specs.Formats.{format_name}
use Rattle.queue_core.specs.Shown.{document_at}
use Rattle.http_wire.specs.Responses.{success_head, WritesFront}
use Rattle.http_head.specs.declared.end.Refusal.TheVariants.{NotFound, ServiceUnavailable}
use Rattle.http_head.specs.declared.target.Target.TheVariants.{Document}
use Rattle.http_wire.proofs.WriteLemmas.{front_taken, front_part, front_after}
use Rattle.http_front.proofs.WriteLemmas.{by_write}
use Rattle.http_front.specs.Turned.{IsReplied}
use Rattle.http_front.proofs.ReplyLemmas.{no_number, at_number, there_of, none_there, document_answer, line_is, replied_ok, replied_err, replied_declined}
use Rattle.http_front.proofs.FailedReadLemmas.{failed_by_write}
use Rattle.http_front.specs.Framed.{IsMediaType, of_document}
use Rattle.http_front.proofs.FramedLemmas.{framed_document}
use Rattle.http_front.proofs.reply.reply_document.Goals as goal

pub returns-in_default-clause-replied : goal.returns-in_default-clause-replied
returns-in_default-clause-replied g c = λ honest w st now content.
    replied_declined now w (Document c.args.numbers) content c.args.closes NotFound _ (inl (refl, no_number w c.args.numbers (search rules)))

pub returns-in-Ok-None-clause-replied : goal.returns-in-Ok-None-clause-replied
returns-in-Ok-None-clause-replied g c = λ honest w st now content.
    let none = none_there (document_at w c.in-Some.job c.in-Some.n) (rw c.in-Ok-None.field-0-is at (c.in-Ok-None.ensures.head honest w (c.document_head.ensures.kept w st))) in
    replied_declined now w (Document c.args.numbers) content c.args.closes NotFound _ (inl (refl, at_number w c.args.numbers c.in-Some.job c.in-Some.n None (search rules) none))

pub returns-in-Err-clause-replied : goal.returns-in-Err-clause-replied
returns-in-Err-clause-replied g c = λ honest w st now content. replied_declined now w (Document c.args.numbers) content c.args.closes ServiceUnavailable _ (inr refl)

pub returns-in_err-send_head-clause-replied : goal.returns-in_err-send_head-clause-replied
returns-in_err-send_head-clause-replied g c = λ honest w st now content.
    let t = there_of (document_at w c.in-Some.job c.in-Some.n) c.in-Ok-Some.head (rw c.in-Ok-Some.field-0-is at (c.in-Ok-Some.ensures.head honest w (c.document_head.ensures.kept w st))) in
    let d = t.0 in
    let there = at_number w c.args.numbers c.in-Some.job c.in-Some.n (Some d) (search rules) t.1 in
    let line = line_is c.name.result.now c.in-Ok-Some.head d c.args.closes c.name.ensures.name t.2 in
    let v = g.W.Write.contents c.args.writer.now in
    let m = g.W.Write.contents c.send_head.new.writer in
    let head : WritesFront v m (success_head (format_name d.format) (length d.bytes) c.args.closes) = subst (λ (l : List ℕ). WritesFront v m l) line c.in_err-send_head.ensures.err in
    by_write (λ result. IsReplied now w w (Document c.args.numbers) content c.args.closes v m result) c.from_residual.result c.from_residual.ensures.1
    (λ f acted fault. replied_err now w w (Document c.args.numbers) content c.args.closes false f v m (format_name d.format) d.bytes (document_answer now w c.args.numbers content d there)
    (front_part v m (success_head (format_name d.format) (length d.bytes) c.args.closes) d.bytes head) acted fault)

pub returns-in-Ok-clause-replied : goal.returns-in-Ok-clause-replied
returns-in-Ok-clause-replied g c = λ honest w st now content.
    let kept = c.document_head.ensures.kept w st in
    let t = there_of (document_at w c.in-Some.job c.in-Some.n) c.in-Ok-Some.head (rw c.in-Ok-Some.field-0-is at (c.in-Ok-Some.ensures.head (c.send_document.ensures.began honest) w kept)) in
    let d = t.0 in
    let there = at_number w c.args.numbers c.in-Some.job c.in-Some.n (Some d) (search rules) t.1 in
    let line = line_is c.name.result.now c.in-Ok-Some.head d c.args.closes c.name.ensures.name t.2 in
    let sent = c.in-Ok.ensures.ok honest w d (c.send_document.ensures.kept w kept) t.1 in
    let v = g.W.Write.contents c.args.writer.now in
    let m = g.W.Write.contents c.send_head.new.writer in
    let x = g.W.Write.contents c.send_document.new.out in
    replied_ok now w w (Document c.args.numbers) content c.args.closes false c.empty.result v x (format_name d.format) d.bytes (document_answer now w c.args.numbers content d there)
    (Appends-trans v m x (success_head (format_name d.format) (length d.bytes) c.args.closes) d.bytes (subst (λ (l : List ℕ). Appends v m l) line c.in_ok-send_head.ensures.ok) sent.1) c.empty.ensures.acted c.empty.ensures.is_fault

pub returns-in-Err-send_document-clause-replied : goal.returns-in-Err-send_document-clause-replied
returns-in-Err-send_document-clause-replied g c = λ honest w st now content.
    let kept = c.document_head.ensures.kept w st in
    let t = there_of (document_at w c.in-Some.job c.in-Some.n) c.in-Ok-Some.head (rw c.in-Ok-Some.field-0-is at (c.in-Ok-Some.ensures.head (c.send_document.ensures.began honest) w kept)) in
    let d = t.0 in
    let there = at_number w c.args.numbers c.in-Some.job c.in-Some.n (Some d) (search rules) t.1 in
    let line = line_is c.name.result.now c.in-Ok-Some.head d c.args.closes c.name.ensures.name t.2 in
    let sent = c.in-Err-send_document.ensures.err honest w d kept t.1 in
    let v = g.W.Write.contents c.args.writer.now in
    let m = g.W.Write.contents c.send_head.new.writer in
    let x = g.W.Write.contents c.send_document.new.out in
    replied_err now w w (Document c.args.numbers) content c.args.closes false c.by-in-Err-send_document.result v x (format_name d.format) d.bytes (document_answer now w c.args.numbers content d there)
    (front_after v m x (success_head (format_name d.format) (length d.bytes) c.args.closes) d.bytes (subst (λ (l : List ℕ). Appends v m l) line c.in_ok-send_head.ensures.ok)
    (front_taken m x d.bytes c.in-Err-send_document.fault.written sent.1))
    c.by-in-Err-send_document.ensures.acted c.by-in-Err-send_document.ensures.is_fault

pub returns-in_err-send_head-clause-no_read_failed : goal.returns-in_err-send_head-clause-no_read_failed
returns-in_err-send_head-clause-no_read_failed g c = failed_by_write c.from_residual.result c.from_residual.ensures.1

pub returns-in_default-clause-framed : goal.returns-in_default-clause-framed
returns-in_default-clause-framed g c = Appends-nil (g.W.Write.contents c.args.writer.now)

pub returns-in-Ok-None-clause-framed : goal.returns-in-Ok-None-clause-framed
returns-in-Ok-None-clause-framed g c = Appends-nil (g.W.Write.contents c.args.writer.now)

pub returns-in-Err-clause-framed : goal.returns-in-Err-clause-framed
returns-in-Err-clause-framed g c = Appends-nil (g.W.Write.contents c.args.writer.now)

pub returns-in-Ok-clause-framed : goal.returns-in-Ok-clause-framed
returns-in-Ok-clause-framed g c =
    let same : c.in-Ok.sent ≡ c.in-Ok-Some.head.octets = search rules in
    framed_document c.empty.result c.args.closes (g.W.Write.contents c.args.writer.now) (g.W.Write.contents c.send_head.new.writer) (g.W.Write.contents c.send_document.new.out) c.name.result.now c.in-Ok-Some.head.octets c.in-Ok.sent
    (subst IsMediaType (sym c.name.ensures.name) (of_document c.in-Ok-Some.head.format)) c.in_ok-send_head.ensures.ok same c.in-Ok.ensures.counted
