-- What the bytes of a request bring about: a reply, and the queue after it.
use Rattle.std.specs.Prelude.{◌≡◌, ◌∷◌, ◌==◌, ◌&&◌, ⊤, ℕ, Bool, true, false, nat_le, List, Option, Some, None, Result, Ok, Err, Vec, IfOk, MatchBool}
use Rattle.std.specs.Bool.{OnFalse, OnTrue}
use Rattle.ipp_wire.specs.declared.view.Head.{Head}
use Rattle.ipp_wire.specs.Message.{Group, Message, Spells, head_of}
use Rattle.ipp_wire.specs.Bare.{bare}
use Rattle.ipp_wire.specs.Fault.{IsMalformed}
use Rattle.queue_types.specs.Event.{Event, Call, ask}
use Rattle.queue_types.specs.Settings.{SettingValues}
use Rattle.queue_core.specs.World.{World}
use Rattle.queue_core.specs.Machine.{step}
use Rattle.queue_types.specs.declared.event.Reply.{Reply}
use Rattle.queue_types.specs.declared.event.Reply.TheVariants.{Refused as RefusedReply}
use Rattle.ipp_ops.specs.declared.answering.Context.{Context}
use Rattle.ipp_ops.specs.declared.outcome.Answer.{Answer}
use Rattle.ipp_ops.specs.declared.outcome.Answer.TheVariants.{Whole, Bare}
use Rattle.ipp_ops.specs.declared.outcome.TooShort.{TooShort}
use Rattle.ipp_ops.specs.Verdict.{Verdict, passed, refused, verdict}
use Rattle.ipp_reply.specs.Unsupported.{Unsupported, nothing}
use Rattle.ipp_request.specs.Reading.{head_refusal}
use Rattle.ipp_reply.specs.Reply.{reply_of, with_groups}
use Rattle.ipp_reply.specs.Wanted.{Rows, no_rows}

-- ---- what bytes ask

-- a request's event
abbrev pub IsAsk : Event → Type 0
IsAsk (ask caller call) = ⊤
IsAsk _ = ⊥

-- the verdict on bytes: what refuses their head; or 0x0400, where they spell no message; or the verdict on the message that they spell. Fewer
-- than 8 bytes are refused too, though no reply says so
pub data IsVerdictOn (b : List ℕ) : Verdict → Type 0 where
  by_head : (code : ℕ) → head_refusal (head_of b) ≡ Some code → IsVerdictOn b (refused code nothing)
  malformed : head_refusal (head_of b) ≡ None → IsMalformed b → IsVerdictOn b (refused 0x0400 nothing)
  request : (m : Message) → Spells m b → IsVerdictOn b (verdict m)

-- what the bytes of a request ask of the machine: a call, or nothing where they are refused
pub data Asks (b : List ℕ) : Option Event → Type 0 where
  refuses : (code : ℕ) (u : Unsupported) → IsVerdictOn b (refused code u) → Asks b None
  calls : (caller : List ℕ) (call : Call) (rows : Rows) (u : Unsupported) → IsVerdictOn b (passed caller call rows u) → Asks b (Some (ask caller call))

-- the events that the bytes ask: their call, where they are not refused
abbrev pub AskedBy : List ℕ → Event → Type 0
AskedBy b = λ e. Asks b (Some e)

-- ---- the bytes of an answer

abbrev pub bytes_of : Answer → List ℕ
bytes_of (Whole bytes) = bytes.items
bytes_of (Bare bytes) = bytes

-- the status code, which is the third and the fourth byte, is server-error-temporary-error, 0x0505
abbrev pub is_fault : List ℕ → Bool
is_fault (major ∷ minor ∷ high ∷ low ∷ rest) = high == 0x05 && low == 0x05
is_fault _ = false

-- the status code is one of an error, 0x0400 or more (RFC 8011, appendix B.1)
abbrev pub is_refusal : List ℕ → Bool
is_refusal (major ∷ minor ∷ high ∷ low ∷ rest) = nat_le 0x04 high
is_refusal _ = false

-- what holds of an answer's bytes where they tell of no fault
abbrev pub IfNoFault : Result Answer TooShort → (List ℕ → Type 0) → Type 0
IfNoFault r holds = IfOk r (λ a. OnFalse (is_fault (bytes_of a)) (holds (bytes_of a)))

-- what holds of them where they tell of a fault
abbrev pub IfFault : Result Answer TooShort → (List ℕ → Type 0) → Type 0
IfFault r holds = IfOk r (λ a. OnTrue (is_fault (bytes_of a)) (holds (bytes_of a)))

-- what holds where their status code is one of an error, as that of a fault is too
abbrev pub OnRefusal : Result Answer TooShort → Type 0 → Type 0
OnRefusal r holds = IfOk r (λ a. OnTrue (is_refusal (bytes_of a)) holds)

-- the answer tells of no fault
abbrev pub IsFaultless : Result Answer TooShort → Type 0
IsFaultless (Ok answer) = is_fault (bytes_of answer) ≡ false
IsFaultless (Err short) = ⊤

-- the answer tells of a fault
abbrev pub TellsFault : Result Answer TooShort → Type 0
TellsFault (Ok answer) = is_fault (bytes_of answer) ≡ true
TellsFault (Err short) = ⊥

-- ---- what is answered

-- the reply that refuses a request of this head
abbrev pub refusal_to : Head → ℕ → Unsupported → SettingValues → ℕ → Message
refusal_to h code u settings now = reply_of (RefusedReply code) h no_rows u settings now

-- the queue after a request, and its reply
pub record Outcome : Type 0 where
  pub world : World
  pub reply : Message

-- a refused request leaves the queue; else the machine takes one step
abbrev pub outcome : Verdict → Head → World → ℕ → Outcome
outcome (refused code u) h w now = record { world = w; reply = refusal_to h code u w.settings now }
outcome (passed caller call rows u) h w now = record {
  world = (step w now (ask caller call)).world;
  reply = reply_of (step w now (ask caller call)).reply h rows u w.settings now;
}

-- out is the reply to the verdict on the bytes, and new the queue after it
pub record Answers (old : World) (now : ℕ) (b : List ℕ) (new : World) (out : List ℕ) : Type 0 where
  pub verdict : Verdict
  pub on_bytes : IsVerdictOn b verdict
  pub world : new ≡ (outcome verdict (head_of b) old now).world
  pub spelled : Spells (outcome verdict (head_of b) old now).reply out

-- out tells of a fault: it is the bare 0x0505, and the head check refuses nothing
pub record Fails (b : List ℕ) (out : List ℕ) : Type 0 where
  pub supported : head_refusal (head_of b) ≡ None
  pub spelled : Spells (bare (head_of b) 0x0505) out

-- out spells this reply, unless it tells of a fault
abbrev pub SpellsUnlessFault : List ℕ → Message → List ℕ → Type 0
SpellsUnlessFault b reply out = MatchBool (is_fault out) (Fails b out) (Spells reply out)

-- out is a reply to a request of this head, whatever it says: a bare reply with some code, and groups behind its first
pub record IsReplyTo (h : Head) (out : List ℕ) : Type 0 where
  pub code : ℕ
  pub groups : List Group
  pub spelled : Spells (with_groups (bare h code) groups) out

-- ---- the queue after an answer

-- the reply that tells of a fault is told apart: behind it the queue stays, and any other is the reply to the bytes
abbrev pub BringsReply : World → ℕ → List ℕ → World → List ℕ → Type 0
BringsReply old now b new out = MatchBool (is_fault out) (Fails b out × (new ≡ old)) (Answers old now b new out)

-- where there is no head to reply to, the queue stays
abbrev pub BringsAnswer : World → ℕ → List ℕ → World → Result Answer TooShort → Type 0
BringsAnswer old now b new (Ok a) = BringsReply old now b new (bytes_of a)
BringsAnswer old now b new (Err short) = new ≡ old

-- ---- on the way to an answer

-- a message that the bytes spell, whose head is not refused
pub record IsRequestIn (b : List ℕ) (m : Message) : Type 0 where
  pub supported : head_refusal (head_of b) ≡ None
  pub spelled : Spells m b

-- out is the bare reply of what refuses the bytes, or of a fault
pub data IsBareAnswer (b out : List ℕ) : Type 0 where
  bare_refusal : (code : ℕ) → IsVerdictOn b (refused code nothing) → Spells (bare (head_of b) code) out → IsBareAnswer b out
  bare_fault : Fails b out → IsBareAnswer b out

-- the machine's reply, with these rows and what is unsupported, as it is written to the request of this context
abbrev pub reply_in : Context → Reply → Rows → Unsupported → Message
reply_in c reply rows u = reply_of reply c.head rows u c.settings.now c.now

-- new is the outcome of the verdict, and the bytes are its reply, where the settings are the queue's; or a fault came, and the queue stays
abbrev pub BringsOutcome : {Z F : Type 0} → Verdict → Context → World → World → Result (Vec ℕ Z) F → Type 0
BringsOutcome v c old new (Ok out) = (new ≡ (outcome v c.head old c.now).world) × (c.settings.now ≡ old.settings → Spells (outcome v c.head old c.now).reply out.items)
BringsOutcome v c old new (Err fault) = new ≡ old
