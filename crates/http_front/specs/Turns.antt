-- A turn of a connection: one request, and its answer in a world of the queue.
use Rattle.std.specs.Prelude.{◌≡◌, ◌≤◌, ◌==◌, ◌-◌, ◌||◌, Bool, true, false, ℕ, List, ◌++◌, length, Option, None, Some, codes, MatchBool}
use Rattle.httparse.specs.Grammar.{RequestHead, IsRequestHead, print_request}
use Rattle.queue_core.specs.World.{World}
use Rattle.queue_core.specs.Shown.{pending_jobs, document_at}
use Rattle.queue_types.specs.declared.document.Document.{Document}
use Rattle.queue_types.specs.Formats.{format_name}
use Rattle.ipp_ops.specs.Answer.{Answers as IsIppReply, Fails, is_fault as is_ipp_fault}
use Rattle.device_lines.specs.Queue.{queue_lines}
use Rattle.device_lines.specs.Reports.{IsReported, IsUntaken, is_fault_line}
use Rattle.http_head.specs.Limits.{head_limit, field_limit}
use Rattle.http_head.specs.Checks.{head_of, plan_of, refusal_of}
use Rattle.http_wire.specs.Bodies.{IsBody}
use Rattle.http_wire.specs.Responses.{interim_response, success_response}
use Rattle.http_head.specs.declared.plan.Plan.{Plan}
use Rattle.http_head.specs.declared.target.Target.{Target}
use Rattle.http_head.specs.declared.target.Target.TheVariants.{Ipp, Report, Queue, Document as DocumentTarget}

-- a request: its head, its body as it stands in the stream, and the body's content; and its answer: whether it is a fault, its media
-- type and its content, and the world after it
pub record Turn : Type 0 where
  pub head : RequestHead
  pub raw : List ℕ
  pub content : List ℕ
  pub is_fault : Bool
  pub media_type : List ℕ
  pub reply : List ℕ
  pub after : World

-- the plan of a request with this head
abbrev pub plan_in : RequestHead → Plan
plan_in h = plan_of (head_of h)

abbrev pub plan : Turn → Plan
plan t = plan_in t.head

-- the bytes of the request
abbrev pub request_bytes : Turn → List ℕ
request_bytes t = print_request t.head ++ t.raw

-- ---- what answers it

-- an IPP message, which has a head of 8 bytes (RFC 8010, section 3.1.1): the machine's reply to it, or the bare fault, which changes nothing
pub record IsIppAnswer (now : ℕ) (w : World) (content : List ℕ) (fault : Bool) (media_type reply : List ℕ) (after : World) : Type 0 where
  pub headed : 8 ≤ length content
  pub flag : fault ≡ is_ipp_fault reply
  pub type_is : media_type ≡ codes "application/ipp"
  pub answers : MatchBool fault (Fails content reply × (after ≡ w)) (IsIppReply w now content after reply)

-- a line of the device: the machine's answer to it, or the line of a fault, which changes nothing
pub record IsReportAnswer (now : ℕ) (w : World) (content : List ℕ) (fault : Bool) (media_type reply : List ℕ) (after : World) : Type 0 where
  pub flag : fault ≡ is_fault_line reply
  pub type_is : media_type ≡ codes "text/plain"
  pub answers : MatchBool fault (IsUntaken content reply × (after ≡ w)) (IsReported w now content after reply)

-- the device's queue: a line for each job that the device may start
pub record IsQueueAnswer (w : World) (fault : Bool) (media_type reply : List ℕ) (after : World) : Type 0 where
  pub flag : fault ≡ false
  pub type_is : media_type ≡ codes "text/plain"
  pub reply_is : reply ≡ queue_lines (pending_jobs w)
  pub after_is : after ≡ w

-- a document by its job's number and its own, where it is shown
abbrev pub document_named : World → Option (ℕ × ℕ) → Option Document
document_named w None = None
document_named w (Some n) = document_at w n.0 n.1

-- a document, under its format
pub record IsDocumentAnswer (w : World) (n : Option (ℕ × ℕ)) (fault : Bool) (media_type reply : List ℕ) (after : World) : Type 0 where
  pub flag : fault ≡ false
  pub document : Document
  pub there : document_named w n ≡ Some document
  pub type_is : media_type ≡ format_name document.format
  pub reply_is : reply ≡ document.bytes
  pub after_is : after ≡ w

-- a whole request for this target
abbrev pub IsAnswered : ℕ → World → Target → List ℕ → Bool → List ℕ → List ℕ → World → Type 0
IsAnswered now w Ipp content fault media_type reply after = IsIppAnswer now w content fault media_type reply after
IsAnswered now w Report content fault media_type reply after = IsReportAnswer now w content fault media_type reply after
IsAnswered now w Queue content fault media_type reply after = IsQueueAnswer w fault media_type reply after
IsAnswered now w (DocumentTarget n) content fault media_type reply after = IsDocumentAnswer w n fault media_type reply after

-- the queue and its documents are only read
abbrev pub acts_on : Target → Bool
acts_on Ipp = true
acts_on Report = true
acts_on Queue = false
acts_on (DocumentTarget n) = false

abbrev pub acts : Turn → Bool
acts t = acts_on (plan t).target

-- ---- what is written

-- the most requests that a connection may have
abbrev pub most_requests : ℕ
most_requests = 32

-- the number, from 0, of the last of them
abbrev pub last_request : ℕ
last_request = most_requests - 1

-- the connection ends after request k: the last that it may have, or where its head says so
abbrev pub closes_at : ℕ → Turn → Bool
closes_at k t = (plan t).closes || (k == last_request)

-- what is written for request k
abbrev pub answer_bytes : ℕ → Turn → List ℕ
answer_bytes k t = interim_response (plan t) ++ success_response t.media_type t.reply (closes_at k t)

-- ---- the turn

-- a whole request within the limits, whose head passes the checks, and its answer in the world
pub record IsTurn (now : ℕ) (w : World) (t : Turn) : Type 0 where
  pub head : IsRequestHead t.head
  pub short : length (print_request t.head) ≤ head_limit
  pub few : length t.head.fields ≤ field_limit
  pub passes : refusal_of (head_of t.head) ≡ None
  pub body : IsBody (plan t).framing t.raw t.content
  pub answered : IsAnswered now w (plan t).target t.content t.is_fault t.media_type t.reply t.after
