-- Where a connection may end, and what is written then.
use Rattle.std.specs.Prelude.{◌≡◌, ◌<◌, Bool, false, ℕ, List, [], ◌∷◌, ◌++◌, length, None, Some}
use Rattle.httparse.specs.Grammar.{RequestHead}
use Rattle.queue_core.specs.World.{World}
use Rattle.http_head.specs.Head.{BeginsHead, EndsWithoutHead}
use Rattle.http_head.specs.Checks.{head_of, refusal_of}
use Rattle.http_wire.specs.Bodies.{IsBody, EndsInBody}
use Rattle.http_head.specs.Ends.{is_unavailable}
use Rattle.http_wire.specs.Responses.{interim_response, refusal_response, last_response}
use Rattle.http_head.specs.declared.end.Finish.{Finish}
use Rattle.http_head.specs.declared.end.Finish.TheVariants.{Refused}
use Rattle.http_head.specs.declared.end.Refusal.{Refusal}
use Rattle.http_head.specs.declared.end.Refusal.TheVariants.{BadRequest, NotFound, ServiceUnavailable}
use Rattle.http_head.specs.declared.target.Target.{Target}
use Rattle.http_head.specs.declared.target.Target.TheVariants.{Ipp, Report, Queue, Document as DocumentTarget}
use Rattle.http_front.specs.Turns.{Turn, document_named, answer_bytes, plan_in, request_bytes}

-- a whole request that has no success: a message without room for its head, or a document that isn't there
abbrev pub Declines : World → Target → List ℕ → Refusal → Type 0
Declines w Ipp content r = (r ≡ BadRequest) × (length content < 8)
Declines w Report content r = ⊥
Declines w Queue content r = ⊥
Declines w (DocumentTarget n) content r = (r ≡ NotFound) × (document_named w n ≡ None)

-- how a connection may end at these bytes, and what is written last
pub data IsEnd (w : World) (bytes : List ℕ) : Finish → List ℕ → Type 0 where
  -- no head stands there
  no_head : (end : Finish) → EndsWithoutHead bytes end → IsEnd w bytes end (last_response end)
  -- a check of the head applies
  checked : (h : RequestHead) (rest : List ℕ) (r : Refusal) → BeginsHead bytes h rest → refusal_of (head_of h) ≡ Some r
      → IsEnd w bytes (Refused r) (refusal_response r)
  -- no whole body follows
  in_body : (h : RequestHead) (rest : List ℕ) (end : Finish) → BeginsHead bytes h rest → refusal_of (head_of h) ≡ None
      → EndsInBody (plan_in h).framing rest end → IsEnd w bytes end (interim_response (plan_in h) ++ last_response end)
  -- a whole request has no success
  declined : (h : RequestHead) (raw content rest : List ℕ) (r : Refusal) → BeginsHead bytes h (raw ++ rest) → refusal_of (head_of h) ≡ None
      → IsBody (plan_in h).framing raw content → Declines w (plan_in h).target content r
      → IsEnd w bytes (Refused r) (interim_response (plan_in h) ++ refusal_response r)
  -- a fault of the server's own, before the head was taken or after it
  unavailable : IsEnd w bytes (Refused ServiceUnavailable) (refusal_response ServiceUnavailable)
  unavailable_later : (h : RequestHead) (rest : List ℕ) → BeginsHead bytes h rest → refusal_of (head_of h) ≡ None
      → IsEnd w bytes (Refused ServiceUnavailable) (interim_response (plan_in h) ++ refusal_response ServiceUnavailable)

-- what may have been begun at these bytes, as request k, when a read, a write or the book failed: what was to be written, the request that it
-- answers, if one, and whether it tells of a fault
pub data IsBegun (k : ℕ) (w : World) (bytes : List ℕ) : List ℕ → List Turn → Bool → Type 0 where
  nothing : IsBegun k w bytes [] [] false
  -- the response before the body
  interim : (h : RequestHead) (rest : List ℕ) → BeginsHead bytes h rest → refusal_of (head_of h) ≡ None
      → IsBegun k w bytes (interim_response (plan_in h)) [] false
  -- an answer
  answered : (t : Turn) (rest : List ℕ) → bytes ≡ request_bytes t ++ rest → IsBegun k w bytes (answer_bytes k t) (t ∷ []) t.is_fault
  -- an end
  ended : (end : Finish) (last : List ℕ) → IsEnd w bytes end last → IsBegun k w bytes last [] (is_unavailable end)
