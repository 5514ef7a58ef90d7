-- A request is answered in one way, but for a fault.
use Rattle.std.proofs.Common.{◌≡◌, ◌∙◌, ℕ, Bool, true, false, List, ◌++◌, Option, Some, Result, Ok, Err, append_assoc, refl, sym, ap, subst}
use Rattle.httparse.specs.Grammar.{RequestHead, print_request}
use Rattle.ipp_wire.specs.Message.{Message, Spells, head_of as ipp_head_of}
use Rattle.ipp_ops.specs.Answer.{IsVerdictOn, outcome}
use Rattle.ipp_ops.specs.Verdict.{Verdict}
use Rattle.device_lines.specs.Lines.{Reads}
use Rattle.device_lines.specs.Reports.{AnswersReport, BringsAbout}
use Rattle.device_lines.specs.declared.line.LineFault.{LineFault}
use Rattle.queue_types.specs.Event.{tell}
use Rattle.queue_types.specs.Formats.{format_name}
use Rattle.queue_types.specs.declared.document.Document.{Document}
use Rattle.queue_types.specs.declared.event.Reply.{Reply}
use Rattle.queue_types.specs.declared.event.Reply.TheVariants.{Refused, Done, Jobs, Printer, Told, NotTold, Added, NotAdded, Expired}
use Rattle.queue_types.specs.declared.event.Report.{Report as DeviceReport}
use Rattle.queue_core.specs.Machine.{step}
use Rattle.queue_core.specs.World.{World}
use Rattle.http_head.specs.Checks.{head_of, plan_of}
use Rattle.http_head.specs.Head.{BeginsHead, EndsWithoutHead}
use Rattle.http_head.specs.declared.end.Finish.{Finish}
use Rattle.http_head.specs.declared.framing.Framing.{Framing}
use Rattle.http_head.specs.declared.target.Target.{Target}
use Rattle.http_head.specs.declared.target.Target.TheVariants.{Ipp, Report, Queue, Document as DocumentTarget}
use Rattle.http_wire.specs.Bodies.{IsBody, EndsInBody}
use Rattle.http_front.specs.Conversations.{IsSameRequest}
use Rattle.http_front.specs.Turns.{Turn, IsAnswered, IsTurn, plan, request_bytes}

-- what the crates below promise of reading
pub record Laws : Type 0 where
  pub heads : (bytes : List ℕ) (h k : RequestHead) (r q : List ℕ) → BeginsHead bytes h r → BeginsHead bytes k q → (h ≡ k) × (r ≡ q)
  pub bodies : (f : Framing) (a b c d r q : List ℕ) → IsBody f a c → IsBody f b d → a ++ r ≡ b ++ q → (a ≡ b) × (c ≡ d) × (r ≡ q)
  pub whole_heads : (bytes : List ℕ) (h : RequestHead) (rest : List ℕ) (end : Finish) → BeginsHead bytes h rest → ¬ EndsWithoutHead bytes end
  pub whole_bodies : (f : Framing) (raw content rest : List ℕ) (end : Finish) → IsBody f raw content → ¬ EndsInBody f (raw ++ rest) end
  pub one_text : (m : Message) (a b : List ℕ) → Spells m a → Spells m b → a ≡ b
  pub one_verdict : (b : List ℕ) (v w : Verdict) → IsVerdictOn b v → IsVerdictOn b w → v ≡ w
  pub one_report : (line : List ℕ) (r q : Result DeviceReport LineFault) → Reads line r → Reads line q → r ≡ q

-- ---- the request

pub turn_head : (now : ℕ) (w : World) (t : Turn) (bytes r : List ℕ) → IsTurn now w t → bytes ≡ request_bytes t ++ r → BeginsHead bytes t.head (t.raw ++ r)
turn_head now w t bytes r is e = record { reads = (is.head, e ∙ append_assoc (print_request t.head) t.raw r); short = is.short; few = is.few }

pub one_request : Laws → (now later : ℕ) (w v : World) (s t : Turn) (r q : List ℕ) → IsTurn now w s → IsTurn later v t
    → request_bytes s ++ r ≡ request_bytes t ++ q → IsSameRequest s t × (r ≡ q)
one_request laws now later w v s t r q is it e =
    let head = laws.heads (request_bytes s ++ r) s.head t.head (s.raw ++ r) (t.raw ++ q) (turn_head now w s _ r is refl) (turn_head later v t _ q it e) in
    let body = laws.bodies (plan s).framing s.raw t.raw s.content t.content r q is.body
    (subst (λ (h : RequestHead). IsBody (plan_of (head_of h)).framing t.raw t.content) (sym head.0) it.body) head.1 in
    (record { head = head.0; raw = body.0; content = body.1 }, body.2)

-- ---- the answer

one_line : (job : ℕ) (reply : Reply) (a b : List ℕ) → AnswersReport job reply a → AnswersReport job reply b → a ≡ b
one_line job (Told state count) a b p q = p ∙ sym q
one_line job (NotTold refusal) a b p q = p ∙ sym q
one_line job (Refused code) a b p q = absurd p
one_line job Done a b p q = absurd p
one_line job (Jobs jobs) a b p q = absurd p
one_line job (Printer state queued accepting) a b p q = absurd p
one_line job (Added added repeats) a b p q = absurd p
one_line job (NotAdded refusal row) a b p q = absurd p
one_line job (Expired ended) a b p q = absurd p

one_brought : (r : Result DeviceReport LineFault) (w : World) (now : ℕ) (u v : World) (a b : List ℕ) → BringsAbout r w now u a → BringsAbout r w now v b → (a ≡ b) × (u ≡ v)
one_brought (Ok r) w now u v a b p q = (one_line r.job (step w now (tell r)).reply a b p.1 q.1, p.0 ∙ sym q.0)
one_brought (Err f) w now u v a b p q = (p.1 ∙ sym q.1, p.0 ∙ sym q.0)

one_document : (o : Option Document) (c d : Document) → o ≡ Some c → o ≡ Some d → c ≡ d
one_document o c d p q = let same : Some c ≡ Some d = sym p ∙ q in cc

one_answer : Laws → (now : ℕ) (w : World) (target : Target) (content : List ℕ) (fault : Bool) (j k a b : List ℕ) (u v : World)
    → IsAnswered now w target content fault j a u → IsAnswered now w target content fault k b v → (j ≡ k) × (a ≡ b) × (u ≡ v)
one_answer laws now w Ipp content true j k a b u v p q =
    (p.type_is ∙ sym q.type_is, laws.one_text _ a b p.answers.0.spelled q.answers.0.spelled, p.answers.1 ∙ sym q.answers.1)
one_answer laws now w Ipp content false j k a b u v p q =
    let same = laws.one_verdict content p.answers.verdict q.answers.verdict p.answers.on_bytes q.answers.on_bytes in (
      p.type_is ∙ sym q.type_is,
      laws.one_text _ a b (subst (λ (z : Verdict). Spells (outcome z (ipp_head_of content) w now).reply a) same p.answers.spelled) q.answers.spelled,
      p.answers.world ∙ ap (λ (z : Verdict). (outcome z (ipp_head_of content) w now).world) same ∙ sym q.answers.world,
    )
one_answer laws now w Report content true j k a b u v p q = (p.type_is ∙ sym q.type_is, p.answers.0.text ∙ sym q.answers.0.text, p.answers.1 ∙ sym q.answers.1)
one_answer laws now w Report content false j k a b u v p q =
    let same = laws.one_report content p.answers.reading q.answers.reading p.answers.reads q.answers.reads in
    let one = one_brought q.answers.reading w now u v a b (subst (λ (z : Result DeviceReport LineFault). BringsAbout z w now u a) same p.answers.brings) q.answers.brings in
    (p.type_is ∙ sym q.type_is, one.0, one.1)
one_answer laws now w Queue content fault j k a b u v p q = (p.type_is ∙ sym q.type_is, p.reply_is ∙ sym q.reply_is, p.after_is ∙ sym q.after_is)
one_answer laws now w (DocumentTarget n) content fault j k a b u v p q =
    let same = one_document _ p.document q.document p.there q.there in (
      p.type_is ∙ ap (λ (d : Document). format_name d.format) same ∙ sym q.type_is,
      p.reply_is ∙ ap (λ (d : Document). d.bytes) same ∙ sym q.reply_is,
      p.after_is ∙ sym q.after_is,
    )

-- ---- the turn

pub one_turn : Laws → (now : ℕ) (w : World) (s t : Turn) (r q : List ℕ) → IsTurn now w s → IsTurn now w t → request_bytes s ++ r ≡ request_bytes t ++ q → s.is_fault ≡ t.is_fault
    → (s ≡ t) × (r ≡ q)
one_turn laws now w s t r q is it e fault =
    let same = one_request laws now now w w s t r q is it e in
    let answered = subst (λ (h : RequestHead). IsAnswered now w (plan_of (head_of h)).target s.content s.is_fault t.media_type t.reply t.after) (sym same.0.head)
    (subst (λ (c : List ℕ). IsAnswered now w (plan t).target c s.is_fault t.media_type t.reply t.after) (sym same.0.content)
    (subst (λ (b : Bool). IsAnswered now w (plan t).target t.content b t.media_type t.reply t.after) (sym fault) it.answered)) in
    let one = one_answer laws now w (plan s).target s.content s.is_fault s.media_type t.media_type s.reply t.reply s.after t.after is.answered answered in
    let turn : s ≡ t =
    λ i. record { head = same.0.head i; raw = same.0.raw i; content = same.0.content i; is_fault = fault i; media_type = one.0 i; reply = one.1 i; after = one.2 i } in
    (turn, same.1)
