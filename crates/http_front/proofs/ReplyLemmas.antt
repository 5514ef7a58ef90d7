-- The answers of the crates below, as parts of a turn.
use Rattle.std.proofs.Common.{◌≡◌, Option, ℕ, ◌<◌, ◌≤◌, List, Bool, true, false, None, Some, Ok, Err, IfErr, IfOk, length, refl, sym, ap, ◌∙◌, subst, arith}
use Rattle.std.proofs.lemmas.Bool.{false≢true}
use Rattle.std.proofs.Math.Nat.{lt_of_not-le}
use Rattle.std.specs.Prelude.{codes, option_map, MatchBool, Result}
use Rattle.std.specs.Io.KnownBytes.{Appends}
use Rattle.std.proofs.KnownBytes.{Appends-nil}
use Rattle.queue_core.specs.World.{World}
use Rattle.queue_core.specs.Shown.{pending_jobs, document_at, head_of}
use Rattle.queue_types.specs.declared.document.Document.{Document}
use Rattle.queue_types.specs.declared.document.DocumentHead.{DocumentHead}
use Rattle.queue_types.specs.Formats.{format_name}
use Rattle.ipp_ops.specs.Answer.{Answers as IsIppReply, Fails, is_fault as is_ipp_fault}
use Rattle.device_lines.specs.Queue.{queue_lines}
use Rattle.device_lines.specs.Reports.{IsReported, IsUntaken, is_fault_line}
use Rattle.http_wire.specs.Responses.{success_head, success_response, WritesFront}
use Rattle.http_head.specs.declared.end.Refusal.{Refusal}
use Rattle.http_head.specs.declared.target.Target.{Target}
use Rattle.http_head.specs.declared.target.Target.TheVariants.{Ipp, Report, Queue, Document as DocumentTarget}
use Rattle.http_front.specs.Turns.{IsAnswered, IsIppAnswer, IsReportAnswer, acts_on, document_named}
use Rattle.http_front.specs.Turned.{IsReplied, IsRepliedOver, IsDeclined}
use Rattle.http_front.specs.declared.outcome.Replied.{Replied}
use Rattle.http_front.specs.declared.outcome.Replied.TheVariants.{Answered, Declined}
use Rattle.http_front.specs.declared.outcome.Stopped.{Stopped}
use Rattle.http_front.specs.declared.outcome.Tally.{Tally}
use Rattle.http_front.specs.Crash.{AsksUnlessDeclined, FailsUnlessDeclined}
use Rattle.http_front.specs.Places.{AsksFor}
use Rattle.queue_core.specs.Crash.{Carries}
use Rattle.queue_core.proofs.Crashes.{carries_by}

-- an answer that was written
pub replied_ok : (now : ℕ) (w u : World) (target : Target) (content : List ℕ) (closes fault : Bool) (tally : Tally) (v x : Option (List ℕ)) (kind reply : List ℕ)
    → IsAnswered now w target content fault kind reply u → Appends v x (success_response kind reply closes) → tally.acted ≡ acts_on target → tally.is_fault ≡ fault
    → IsReplied now w u target content closes v x (Ok (Answered tally))
replied_ok now w u target content closes fault tally v x kind reply a written acted same = (
  record { media_type = kind; reply = reply; answered = subst (λ (b : Bool). IsAnswered now w target content b kind reply u) (sym same) a; acted_is = acted },
  written,
)

-- an answer of which a front was
pub replied_err : (now : ℕ) (w u : World) (target : Target) (content : List ℕ) (closes fault : Bool) (f : Stopped) (v x : Option (List ℕ)) (kind reply : List ℕ)
    → IsAnswered now w target content fault kind reply u → WritesFront v x (success_response kind reply closes) → f.tally.acted ≡ acts_on target → f.tally.is_fault ≡ fault
    → IsReplied now w u target content closes v x (Err f)
replied_err now w u target content closes fault f v x kind reply a written acted same = (
  record { media_type = kind; reply = reply; answered = subst (λ (b : Bool). IsAnswered now w target content b kind reply u) (sym same) a; acted_is = acted },
  written,
)

-- what came of sending a whole answer
abbrev pub IsSent : Tally → Option (List ℕ) → Option (List ℕ) → List ℕ → Result Replied Stopped → Type 0
IsSent tally v x bytes (Ok r) = (r ≡ Answered tally) × Appends v x bytes
IsSent tally v x bytes (Err f) = (f.tally ≡ tally) × WritesFront v x bytes

pub sent_of : (tally : Tally) (v x : Option (List ℕ)) (bytes : List ℕ) (result : Result Replied Stopped) → IfOk result (λ r. (r ≡ Answered tally) × Appends v x bytes)
    → IfErr result (λ f. (f.tally ≡ tally) × WritesFront v x bytes) → IsSent tally v x bytes result
sent_of tally v x bytes (Ok r) ok err = ok
sent_of tally v x bytes (Err f) ok err = err

pub replied_sent : (now : ℕ) (w u : World) (target : Target) (content : List ℕ) (closes fault : Bool) (tally : Tally) (v x : Option (List ℕ)) (kind reply : List ℕ) (result : Result Replied Stopped)
    → IsAnswered now w target content fault kind reply u → tally.acted ≡ acts_on target → tally.is_fault ≡ fault → IsSent tally v x (success_response kind reply closes) result
    → IsReplied now w u target content closes v x result
replied_sent now w u target content closes fault tally v x kind reply (Ok r) a acted same sent =
    subst (λ (z : Replied). IsReplied now w u target content closes v x (Ok z)) (sym sent.0) (replied_ok now w u target content closes fault tally v x kind reply a sent.1 acted same)
replied_sent now w u target content closes fault tally v x kind reply (Err f) a acted same sent =
    replied_err now w u target content closes fault f v x kind reply a sent.1 (ap (λ (z : Tally). z.acted) sent.0 ∙ acted) (ap (λ (z : Tally). z.is_fault) sent.0 ∙ same)

-- its request was not declined, and a fault answers it where that is told
pub carries_sent : (before after : World → World → Type 0) (failed : Type 0) (now : ℕ) (w u : World) (target : Target) (content : List ℕ) (tally : Tally) (v x : Option (List ℕ)) (bytes : List ℕ) (result : Result Replied Stopped)
    → IsSent tally v x bytes result → (failed → tally.is_fault ≡ true) → Carries before after (λ e. AsksFor target content (Some e)) failed now w u
    → Carries before after (AsksUnlessDeclined target content result) (FailsUnlessDeclined result) now w u
carries_sent before after failed now w u target content tally v x bytes (Ok r) sent told c =
    subst (λ (z : Replied). Carries before after (AsksUnlessDeclined target content (Ok z)) (FailsUnlessDeclined (Ok z)) now w u) (sym sent.0)
    (carries_by before after _ _ failed (tally.is_fault ≡ true) now w u (λ e asks. asks) told c)
carries_sent before after failed now w u target content tally v x bytes (Err f) sent told c =
    carries_by before after _ _ failed (f.tally.is_fault ≡ true) now w u (λ e asks. asks) (λ is. ap (λ (z : Tally). z.is_fault) sent.0 ∙ told is) c

-- nothing was written
pub replied_declined : (now : ℕ) (w : World) (target : Target) (content : List ℕ) (closes : Bool) (r : Refusal) (v : Option (List ℕ))
    → IsDeclined w target content r → IsReplied now w w target content closes v v (Ok (Declined r))
replied_declined now w target content closes r v d = (d, Appends-nil v, refl)

-- ---- IPP

-- no error, which comes exactly under 8 bytes
pub headed_of : (n : ℕ) → (n < 8 → false ≡ true) → 8 ≤ n
headed_of n h = let k : 7 < n = lt_of_not-le (λ (few : n ≤ 7). let lt : n < 8 = omega arith in false≢true (h lt)) in omega arith

-- what came of a message answers it
pub ipp_answer : (now : ℕ) (w u : World) (content bytes body : List ℕ) (fault : Bool) → 8 ≤ length content
    → MatchBool (is_ipp_fault bytes) (Fails content bytes × (u ≡ w)) (IsIppReply w now content u bytes) → fault ≡ is_ipp_fault bytes → body ≡ bytes
    → IsAnswered now w Ipp content fault (codes "application/ipp") body u
ipp_answer now w u content bytes body fault long brought e f =
    subst (λ (b : Bool). IsIppAnswer now w content b (codes "application/ipp") body u) (sym e)
    (subst (λ (l : List ℕ). IsIppAnswer now w content (is_ipp_fault bytes) (codes "application/ipp") l u) (sym f) (record { headed = long; flag = refl; type_is = refl; answers = brought }))

-- ---- reports

-- what came of a line answers it
pub report_answer : (now : ℕ) (w u : World) (content bytes body : List ℕ) (fault : Bool)
    → MatchBool (is_fault_line bytes) (IsUntaken content bytes × (u ≡ w)) (IsReported w now content u bytes) → fault ≡ is_fault_line bytes → body ≡ bytes
    → IsAnswered now w Report content fault (codes "text/plain") body u
report_answer now w u content bytes body fault brought e f =
    subst (λ (b : Bool). IsReportAnswer now w content b (codes "text/plain") body u) (sym e)
    (subst (λ (l : List ℕ). IsReportAnswer now w content (is_fault_line bytes) (codes "text/plain") l u) (sym f) (record { flag = refl; type_is = refl; answers = brought }))

-- ---- documents

pub there_of : (o : Option Document) (h : DocumentHead) → Some h ≡ option_map head_of o → (d : Document) × (o ≡ Some d) × (h ≡ head_of d)
there_of None h e = absurd (cc)
there_of (Some d) h e = (d, refl, cc)

pub none_there : (o : Option Document) → None ≡ option_map head_of o → o ≡ None
none_there None e = refl
none_there (Some d) e = absurd (cc)

pub no_number : (w : World) (n : Option (ℕ × ℕ)) → n ≡ None → document_named w n ≡ None
no_number w None e = refl
no_number w (Some p) e = absurd (cc)

pub at_number : (w : World) (n : Option (ℕ × ℕ)) (job number : ℕ) (o : Option Document) → n ≡ Some (job, number) → document_at w job number ≡ o → document_named w n ≡ o
at_number w n job number o e f = ap (document_named w) e ∙ f

pub document_answer : (now : ℕ) (w : World) (n : Option (ℕ × ℕ)) (content : List ℕ) (d : Document) → document_named w n ≡ Some d
    → IsAnswered now w (DocumentTarget n) content false (format_name d.format) d.bytes w
document_answer now w n content d e = record { flag = refl; document = d; there = e; type_is = refl; reply_is = refl; after_is = refl }

-- the head of the response that its head tells
pub line_is : (kind : List ℕ) (h : DocumentHead) (d : Document) (closes : Bool) → kind ≡ format_name h.format → h ≡ head_of d
    → success_head kind h.octets closes ≡ success_head (format_name d.format) (length d.bytes) closes
line_is kind h d closes f g = ap (λ k. success_head k h.octets closes) f ∙ ap (λ (z : DocumentHead). success_head (format_name z.format) z.octets closes) g

pub queue_answer : (now : ℕ) (w : World) (content reply : List ℕ) → reply ≡ queue_lines (pending_jobs w) → IsAnswered now w Queue content false (codes "text/plain") reply w
queue_answer now w content reply e = record { flag = refl; type_is = refl; reply_is = e; after_is = refl }

-- the same of a target by another name
pub retarget : (before after : World → World → Type 0) (now : ℕ) (w u : World) (t z : Target) (content : List ℕ) (closes : Bool) (v x : Option (List ℕ)) (result : Result Replied Stopped) → t ≡ z
    → IsRepliedOver before after now w u z content closes v x result → IsRepliedOver before after now w u t content closes v x result
retarget before after now w u t z content closes v x result e p = subst (λ (k : Target). IsRepliedOver before after now w u k content closes v x result) (sym e) p
